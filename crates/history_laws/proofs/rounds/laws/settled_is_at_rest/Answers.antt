use Rattle.history_laws.proofs.rounds.RestLemmas.{settled_is_at_rest}
use Rattle.history_laws.proofs.rounds.laws.settled_is_at_rest.Goals as goal

pub returns : goal.returns
returns c = settled_is_at_rest
