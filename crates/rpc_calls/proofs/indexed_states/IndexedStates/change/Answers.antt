use Rattle.std.proofs.Common.{◌≡◌, ◌<◌, Some, length, slice_get, sym, subst, arith}
use Rattle.rpc_journal.specs.table.Turns.{Turns}
use Rattle.rpc_journal.proofs.PlaceLemmas.{get_some}
use Rattle.rpc_calls.specs.Roll.{Changes}
use Rattle.rpc_calls.specs.StateChanges.{touch_of}
use Rattle.rpc_calls.proofs.IndexSteps.{can_reindex, index_changed}
use Rattle.rpc_calls.proofs.InUseSteps.{kept_changed, used_changed}
use Rattle.rpc_calls.proofs.indexed_states.IndexedStates.change.Goals as goal

pub change-oldest-requires-clause-kept : goal.change-oldest-requires-clause-kept
change-oldest-requires-clause-kept g c =
    let row = get_some c.self.inside.calls.states.calls.items c.args.call (subst (λ t. c.args.call < length t.states.calls.items) (sym c.self.view_is) c.requires.there) in
    c.marks-was.ensures.left row.0 row.1 (c.requires.used row.0 (subst (λ t. slice_get t.states.calls.items c.args.call ≡ Some row.0) c.self.view_is row.1))

pub change-oldest-requires-clause-can : goal.change-oldest-requires-clause-can
change-oldest-requires-clause-can g c = λ r is. c.requires.can r (subst (λ t. slice_get t.states.calls.items c.args.call ≡ Some r) c.self.view_is is)

pub marks-is-requires : goal.marks-is-requires
marks-is-requires g c = omega (arith, (subst (λ t. c.args.call < length t.states.calls.items) (sym c.self.view_is) c.requires.there), c.change-oldest.ensures.changes.change.many)

pub change-requires : goal.change-requires
change-requires g c = can_reindex c.self.inside.calls.states.calls.items c.self.inside.index c.args.call c.marks-was.result c.self.invariant.indexed (subst (λ t. c.args.call < length t.states.calls.items) (sym c.self.view_is) c.requires.there) c.marks-was.ensures.marks

pub invariant_of-self : goal.invariant_of-self
invariant_of-self g c = record {
  indexed = index_changed (λ r x. Turns c.args.at (touch_of c.args.change r) r x) c.self.inside.calls.states.calls.items c.change-oldest.new.self.states.calls.items c.self.inside.index c.change.new.self c.args.call c.marks-was.result c.marks-is.result c.self.invariant.indexed
      (subst (λ t. c.args.call < length t.states.calls.items) (sym c.self.view_is) c.requires.there) c.change-oldest.ensures.changes.change c.marks-was.ensures.marks c.marks-is.ensures.marks c.change.ensures;
  kept = kept_changed c.args.call (λ r x. Turns c.args.at (touch_of c.args.change r) r x) c.self.inside.calls c.change-oldest.new.self c.self.inside.kept c.self.invariant.kept c.change-oldest.ensures.changes;
  used = used_changed c.args.call (λ r x. Turns c.args.at (touch_of c.args.change r) r x) c.self.inside.calls c.change-oldest.new.self c.self.invariant.used c.change-oldest.ensures.changes
      (λ x is.
      let row = get_some c.self.inside.calls.states.calls.items c.args.call (subst (λ t. c.args.call < length t.states.calls.items) (sym c.self.view_is) c.requires.there) in
      c.requires.stays row.0 x (subst (λ t. slice_get t.states.calls.items c.args.call ≡ Some row.0) c.self.view_is row.1)
      (c.change-oldest.ensures.changes.change.here row.0 x row.1 is));
}

pub returns-clause-changes : goal.returns-clause-changes
returns-clause-changes g c = subst (λ t. Changes c.args.call (λ r x. Turns c.args.at (touch_of c.args.change r) r x) t c.change-oldest.new.self) c.self.view_is c.change-oldest.ensures.changes

pub returns-clause-oldest : goal.returns-clause-oldest
returns-clause-oldest g c = λ r x was now. c.change-oldest.ensures.oldest r x (subst (λ t. slice_get t.states.calls.items c.args.call ≡ Some r) (sym c.self.view_is) was) now
