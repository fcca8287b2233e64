use Rattle.history_laws.proofs.ticks.TickLemmas.{live_calls_are_uncut}
use Rattle.history_laws.proofs.ticks.laws.live_calls_are_uncut.Goals as goal

pub returns : goal.returns
returns c = live_calls_are_uncut
