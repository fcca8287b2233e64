use Rattle.std.proofs.Common.{◌≡◌, Some, IfNone, slice_get, subst}
use Rattle.rpc_journal.specs.declared.table.call_state.CallState.{CallState}
use Rattle.rpc_calls.specs.Facts.{IsDoneWith}
use Rattle.rpc_calls.proofs.indexed_states.IndexedStates.state_at.Goals as goal

pub returns-clause-left : goal.returns-clause-left
returns-clause-left g c = subst (λ t. IfNone c.state.result ((r : CallState) → slice_get t.states.calls.items c.args.call ≡ Some r → IsDoneWith r)) c.self.view_is c.state.ensures.left
