use Rattle.std.proofs.Common.{is_some, ap, sym}
use Rattle.rpc_calls.proofs.indexed_states.IndexedStates.runs.Goals as goal

pub returns-in-None : goal.returns-in-None
returns-in-None g c = λ r is. ap is_some (sym (c.in-None.ensures.left r is).idle)
