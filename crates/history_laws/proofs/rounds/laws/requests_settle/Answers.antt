use Rattle.history_laws.proofs.rounds.RoundLemmas.{requests_settle}
use Rattle.history_laws.proofs.rounds.laws.requests_settle.Goals as goal

pub returns : goal.returns
returns c = requests_settle
