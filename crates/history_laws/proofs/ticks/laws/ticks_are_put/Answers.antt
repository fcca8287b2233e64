use Rattle.history_laws.proofs.ticks.PutLemmas.{ticks_are_put}
use Rattle.history_laws.proofs.ticks.laws.ticks_are_put.Goals as goal

pub returns : goal.returns
returns c = ticks_are_put
