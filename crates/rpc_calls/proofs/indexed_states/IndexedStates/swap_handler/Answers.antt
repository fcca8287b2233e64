use Rattle.std.proofs.Common.{◌≡◌, ◌<◌, Some, length, slice_get, sym, subst}
use Rattle.rpc_journal.proofs.PlaceLemmas.{get_some}
use Rattle.rpc_calls.proofs.InUseSteps.{live_used}
use Rattle.rpc_calls.proofs.indexed_states.IndexedStates.swap_handler.Goals as goal

pub swap_handler-old-requires : goal.swap_handler-old-requires
swap_handler-old-requires g c =
    let row = get_some c.self.inside.calls.states.calls.items c.args.call (subst (λ t. c.args.call < length t.states.calls.items) (sym c.self.view_is) c.requires.there) in
    c.marks-marks.ensures.left row.0 row.1 (live_used row.0 (c.requires.live row.0 (subst (λ t. slice_get t.states.calls.items c.args.call ≡ Some row.0) c.self.view_is row.1)))
