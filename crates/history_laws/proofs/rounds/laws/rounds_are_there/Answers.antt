use Rattle.history_laws.proofs.rounds.RoundLemmas.{rounds_are_there}
use Rattle.history_laws.proofs.rounds.laws.rounds_are_there.Goals as goal

pub returns : goal.returns
returns c = rounds_are_there
