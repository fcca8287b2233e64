use Rattle.run_laws.proofs.crews.LoadLemmas as lemmas
use Rattle.run_laws.proofs.crews.laws.loads_are_calm.Goals as goal

pub returns : goal.returns
returns c = lemmas.loads_are_calm
