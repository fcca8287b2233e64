use Rattle.std.proofs.Common.{◌≡◌, ◌<◌, Some, length, slice_get, sym, subst}
use Rattle.rpc_journal.proofs.PlaceLemmas.{get_some}
use Rattle.rpc_calls.specs.Widened.{IsWider}
use Rattle.rpc_calls.proofs.IndexSteps.{index_alike}
use Rattle.rpc_calls.proofs.InUseSteps.{kept_changed, used_changed}
use Rattle.rpc_calls.proofs.TellSteps.{wider_used}
use Rattle.rpc_calls.proofs.WiderSteps.{all_wider_refl, wider_marks, wider_more}
use Rattle.rpc_calls.proofs.indexed_states.IndexedStates.widen.Goals as goal

pub widen-requires : goal.widen-requires
widen-requires g c =
    let row = get_some c.self.inside.calls.states.calls.items c.args.call (subst (λ t. c.args.call < length t.states.calls.items) (sym c.self.view_is) c.requires.there) in
    c.marks.ensures.left row.0 row.1 (c.requires.used row.0 (subst (λ t. slice_get t.states.calls.items c.args.call ≡ Some row.0) c.self.view_is row.1))

pub invariant_of-self : goal.invariant_of-self
invariant_of-self g c = record {
  indexed = index_alike IsWider c.self.inside.calls.states.calls.items c.widen.new.self.states.calls.items c.self.inside.index c.self.invariant.indexed
      (wider_more c.args.call c.self.inside.calls.states.calls.items c.self.inside.calls.states.calls.items c.widen.new.self.states.calls.items (all_wider_refl c.self.inside.calls.states.calls.items) c.widen.ensures.changes.change) wider_marks;
  kept = kept_changed c.args.call IsWider c.self.inside.calls c.widen.new.self c.self.inside.kept c.self.invariant.kept c.widen.ensures.changes;
  used = used_changed c.args.call IsWider c.self.inside.calls c.widen.new.self c.self.invariant.used c.widen.ensures.changes
      (λ x is.
      let row = get_some c.self.inside.calls.states.calls.items c.args.call (subst (λ t. c.args.call < length t.states.calls.items) (sym c.self.view_is) c.requires.there) in
      wider_used row.0 x (c.widen.ensures.changes.change.here row.0 x row.1 is) (c.requires.used row.0 (subst (λ t. slice_get t.states.calls.items c.args.call ≡ Some row.0) c.self.view_is row.1)));
}
