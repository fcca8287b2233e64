use Rattle.history_laws.proofs.ticks.TickLemmas.{ticks_settle}
use Rattle.history_laws.proofs.ticks.laws.ticks_settle.Goals as goal

pub returns : goal.returns
returns c = ticks_settle
