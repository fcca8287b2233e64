use Rattle.history_laws.proofs.ticks.TickLemmas.{ticks_are_there}
use Rattle.history_laws.proofs.ticks.laws.ticks_are_there.Goals as goal

pub returns : goal.returns
returns c = ticks_are_there
