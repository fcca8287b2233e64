use Rattle.std.proofs.Common.{◌≡◌, Some, false, slice_get, sym, subst}
use Rattle.rpc_calls.specs.Kept.{is_kept_at}
use Rattle.rpc_calls.proofs.LeaveSteps.{left_done}
use Rattle.rpc_calls.proofs.call_records.CallRecords.len.Goals as goal

pub returns-clause-left : goal.returns-clause-left
returns-clause-left g c = λ k r there gone. left_done c.self.inside.records c.self.inside.places.items c.self.inside.shown.items c.self.inside.names k r c.self.invariant
    (subst (λ t. slice_get t.states.calls.items k ≡ Some r) (sym c.self.view_is) there) (subst (λ t. is_kept_at (slice_get t.places k) ≡ false) (sym c.self.view_is) gone)
