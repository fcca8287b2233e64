use Rattle.std.proofs.Common.{◌≡◌, ◌∙◌, ◌<◌, Some, length, slice_get, refl, ap, sym, subst, arith}
use Rattle.rpc_journal.specs.table.Touch.{finishing_so}
use Rattle.rpc_journal.specs.table.Turns.{Turns}
use Rattle.rpc_journal.proofs.PlaceLemmas.{get_some}
use Rattle.rpc_calls.specs.Kept.{is_kept_at}
use Rattle.rpc_calls.specs.Indexed.{IsIndexed}
use Rattle.rpc_calls.specs.InUse.{AreKept}
use Rattle.rpc_calls.specs.Places.{ChangesAt}
use Rattle.rpc_calls.specs.RunEnds.{EndsRun}
use Rattle.rpc_calls.specs.Outside.{SameOutside}
use Rattle.rpc_calls.proofs.EndSteps.{ends_run, turns_anywhere, used_left}
use Rattle.rpc_calls.proofs.IndexSteps.{can_reindex, index_changed}
use Rattle.rpc_calls.proofs.InUseSteps.{runs_used}
use Rattle.rpc_calls.proofs.indexed_states.IndexedStates.finish.Goals as goal

pub change-requires-clause-kept : goal.change-requires-clause-kept
change-requires-clause-kept g c =
    let row = get_some c.self.inside.calls.states.calls.items c.args.call (subst (λ t. c.args.call < length t.states.calls.items) (sym c.self.view_is) c.requires.there) in
    c.marks-was.ensures.left row.0 row.1 (runs_used row.0 (c.requires.runs row.0 (subst (λ t. slice_get t.states.calls.items c.args.call ≡ Some row.0) c.self.view_is row.1)))

pub change-requires-clause-can : goal.change-requires-clause-can
change-requires-clause-can g c = λ r is ends. c.requires.once ends r (subst (λ t. slice_get t.states.calls.items c.args.call ≡ Some r) c.self.view_is is)

pub marks-is-requires : goal.marks-is-requires
marks-is-requires g c = omega (arith, (subst (λ t. c.args.call < length t.states.calls.items) (sym c.self.view_is) c.requires.there), c.change.ensures.changes.change.many)

pub change-requires-2 : goal.change-requires-2
change-requires-2 g c = can_reindex c.self.inside.calls.states.calls.items c.self.inside.index c.args.call c.marks-was.result c.self.invariant.indexed (subst (λ t. c.args.call < length t.states.calls.items) (sym c.self.view_is) c.requires.there) c.marks-was.ensures.marks

pub put_back-back-requires : goal.put_back-back-requires
put_back-back-requires g c =
    let row = get_some c.self.inside.calls.states.calls.items c.args.call (subst (λ t. c.args.call < length t.states.calls.items) (sym c.self.view_is) c.requires.there) in
    ap (λ ps. is_kept_at (slice_get ps c.args.call)) c.change.ensures.changes.places
    ∙ c.marks-was.ensures.left row.0 row.1 (runs_used row.0 (c.requires.runs row.0 (subst (λ t. slice_get t.states.calls.items c.args.call ≡ Some row.0) c.self.view_is row.1)))

pub invariant_of-self : goal.invariant_of-self
invariant_of-self g c = record {
  indexed = subst (λ ss. IsIndexed ss.calls.items c.change-3.new.self) (sym (c.leave_if_done.ensures.leaves.states ∙ c.put_back-back.ensures.states))
      (index_changed (λ r x. Turns 0 (finishing_so c.args.end c.args.completes) r x) c.self.inside.calls.states.calls.items c.change.new.self.states.calls.items c.self.inside.index c.change-3.new.self c.args.call c.marks-was.result c.marks-is.result c.self.invariant.indexed
      (subst (λ t. c.args.call < length t.states.calls.items) (sym c.self.view_is) c.requires.there) c.change.ensures.changes.change c.marks-was.ensures.marks c.marks-is.ensures.marks c.change-3.ensures);
  kept = c.leave_if_done.ensures.kept (subst (AreKept c.self.inside.kept) (sym (c.put_back-back.ensures.places ∙ c.change.ensures.changes.places)) c.self.invariant.kept);
  used = used_left c.args.call c.self.inside.calls c.put_back-back.new.calls c.leave_if_done.new.calls c.self.invariant.used
      (λ k apart. ap (λ ps. is_kept_at (slice_get ps k)) (c.put_back-back.ensures.places ∙ c.change.ensures.changes.places))
      (λ k apart. ap (λ ss. slice_get ss.calls.items k) c.put_back-back.ensures.states ∙ c.change.ensures.changes.change.others k apart)
      c.leave_if_done.ensures.leaves;
}

pub returns-clause-change : goal.returns-clause-change
returns-clause-change g c = λ at.
    subst (λ t. ChangesAt c.args.call (Turns at (finishing_so c.args.end c.args.completes)) t.states.calls.items c.leave_if_done.new.calls.states.calls.items) c.self.view_is
    (subst (λ ss. ChangesAt c.args.call (Turns at (finishing_so c.args.end c.args.completes)) c.self.inside.calls.states.calls.items ss.calls.items) (sym (c.leave_if_done.ensures.leaves.states ∙ c.put_back-back.ensures.states))
    (turns_anywhere c.args.call at (λ r. finishing_so c.args.end c.args.completes) c.self.inside.calls.states.calls.items c.change.new.self.states.calls.items (λ r. refl) c.change.ensures.changes.change))

pub returns-clause-outside : goal.returns-clause-outside
returns-clause-outside g c =
    subst (λ t. SameOutside t.states c.leave_if_done.new.calls.states) c.self.view_is
    (subst (λ ss. SameOutside c.self.inside.calls.states ss) (sym (c.leave_if_done.ensures.leaves.states ∙ c.put_back-back.ensures.states)) c.change.ensures.changes.outside)

pub returns-clause-handlers : goal.returns-clause-handlers
returns-clause-handlers g c =
    subst (λ t. EndsRun c.args.call c.args.handler c.put_back-back.result t.handlers c.leave_if_done.new.calls) c.self.view_is
    (ends_run c.args.call c.args.handler c.put_back-back.result c.self.inside.calls c.change.new.self c.put_back-back.new.calls c.leave_if_done.new.calls c.change.ensures.changes.handlers c.put_back-back.ensures c.leave_if_done.ensures.leaves)
