use Rattle.history_laws.proofs.ticks.SpeakLemmas.{one_speaks}
use Rattle.history_laws.proofs.ticks.laws.one_speaks.Goals as goal

pub returns : goal.returns
returns c = one_speaks
