use Rattle.std.proofs.Common.{◌≡◌, ◌∙◌, ◌<◌, ◌∷◌, Some, None, length, slice_get, slice_set, is_some, IfSome, refl, ap, sym, subst, arith}
use Rattle.rpc_journal.specs.table.Touch.{starting}
use Rattle.rpc_journal.specs.table.Turns.{Turns}
use Rattle.rpc_journal.proofs.PlaceLemmas.{get_some}
use Rattle.rpc_calls.specs.Kept.{is_kept_at}
use Rattle.rpc_calls.specs.Indexed.{IsIndexed}
use Rattle.rpc_calls.specs.InUse.{AreKept}
use Rattle.rpc_calls.specs.Places.{ChangesAt}
use Rattle.rpc_calls.specs.Outside.{SameOutside}
use Rattle.rpc_calls.proofs.EndSteps.{turns_anywhere, used_same}
use Rattle.rpc_calls.proofs.IndexSteps.{can_reindex, index_changed}
use Rattle.rpc_calls.proofs.InUseSteps.{runs_used, used_changed, waits_used}
use Rattle.rpc_calls.proofs.indexed_states.IndexedStates.start.Goals as goal

pub change-requires-clause-kept : goal.change-requires-clause-kept
change-requires-clause-kept g c =
    (let row = get_some c.self.inside.calls.states.calls.items c.args.call (subst (λ t. c.args.call < length t.states.calls.items) (sym c.self.view_is) c.requires.there) in
    c.marks-was.ensures.left row.0 row.1 (waits_used row.0 (c.requires.waits row.0 (subst (λ t. slice_get t.states.calls.items c.args.call ≡ Some row.0) c.self.view_is row.1))))

pub change-requires-clause-can : goal.change-requires-clause-can
change-requires-clause-can g c = λ r is. c.requires.waits r (subst (λ t. slice_get t.states.calls.items c.args.call ≡ Some r) c.self.view_is is)

pub marks-is-requires : goal.marks-is-requires
marks-is-requires g c = omega (arith, (subst (λ t. c.args.call < length t.states.calls.items) (sym c.self.view_is) c.requires.there), c.change.ensures.changes.change.many)

pub change-requires-2 : goal.change-requires-2
change-requires-2 g c = can_reindex c.self.inside.calls.states.calls.items c.self.inside.index c.args.call c.marks-was.result c.self.invariant.indexed (subst (λ t. c.args.call < length t.states.calls.items) (sym c.self.view_is) c.requires.there) c.marks-was.ensures.marks

pub swap_handler-requires : goal.swap_handler-requires
swap_handler-requires g c =
    ap (λ ps. is_kept_at (slice_get ps c.args.call)) c.change.ensures.changes.places ∙ (let row = get_some c.self.inside.calls.states.calls.items c.args.call (subst (λ t. c.args.call < length t.states.calls.items) (sym c.self.view_is) c.requires.there) in
    c.marks-was.ensures.left row.0 row.1 (waits_used row.0 (c.requires.waits row.0 (subst (λ t. slice_get t.states.calls.items c.args.call ≡ Some row.0) c.self.view_is row.1))))

pub invariant_of-self : goal.invariant_of-self
invariant_of-self g c = record {
  indexed = subst (λ ss. IsIndexed ss.calls.items c.change-2.new.self) (sym c.swap_handler.ensures.states)
      (index_changed (λ r x. Turns 0 (starting c.args.seat) r x) c.self.inside.calls.states.calls.items c.change.new.self.states.calls.items c.self.inside.index c.change-2.new.self c.args.call c.marks-was.result c.marks-is.result c.self.invariant.indexed
      (subst (λ t. c.args.call < length t.states.calls.items) (sym c.self.view_is) c.requires.there) c.change.ensures.changes.change c.marks-was.ensures.marks c.marks-is.ensures.marks c.change-2.ensures);
  kept = subst (AreKept c.self.inside.kept) (sym (c.swap_handler.ensures.places ∙ c.change.ensures.changes.places)) c.self.invariant.kept;
  used = used_same c.change.new.self c.swap_handler.new.self c.swap_handler.ensures.states c.swap_handler.ensures.places
      (used_changed c.args.call (λ r x. Turns 0 (starting c.args.seat) r x) c.self.inside.calls c.change.new.self c.self.invariant.used c.change.ensures.changes (λ x is.
      let row = get_some c.self.inside.calls.states.calls.items c.args.call (subst (λ t. c.args.call < length t.states.calls.items) (sym c.self.view_is) c.requires.there) in
      runs_used x (ap is_some (c.change.ensures.changes.change.here row.0 x row.1 is).is.run)));
}

pub returns-clause-change : goal.returns-clause-change
returns-clause-change g c = λ at.
    subst (λ t. ChangesAt c.args.call (Turns at (starting c.args.seat)) t.states.calls.items c.swap_handler.new.self.states.calls.items) c.self.view_is
    (subst (λ ss. ChangesAt c.args.call (Turns at (starting c.args.seat)) c.self.inside.calls.states.calls.items ss.calls.items) (sym c.swap_handler.ensures.states)
    (turns_anywhere c.args.call at (λ r. starting c.args.seat) c.self.inside.calls.states.calls.items c.change.new.self.states.calls.items (λ r. refl) c.change.ensures.changes.change))

pub returns-clause-outside : goal.returns-clause-outside
returns-clause-outside g c =
    subst (λ t. SameOutside t.states c.swap_handler.new.self.states) c.self.view_is
    (subst (λ ss. SameOutside c.self.inside.calls.states ss) (sym c.swap_handler.ensures.states) c.change.ensures.changes.outside)

pub returns-clause-oldest : goal.returns-clause-oldest
returns-clause-oldest g c = λ r x was now.
    subst (λ o. IfSome o (λ w. r.waiting.items ≡ w ∷ x.waiting.items)) c.unwrap-oldest.ensures
    (c.change.ensures.oldest r x (subst (λ t. slice_get t.states.calls.items c.args.call ≡ Some r) (sym c.self.view_is) was) (ap (λ ss. slice_get ss.calls.items c.args.call) (sym c.swap_handler.ensures.states) ∙ now))

pub returns-clause-handler : goal.returns-clause-handler
returns-clause-handler g c =
    subst (λ t. slice_get t.handlers c.args.call ≡ Some (Some c.unwrap-handler.result)) c.self.view_is
    (ap (λ hs. slice_get hs c.args.call) (sym c.change.ensures.changes.handlers) ∙ c.swap_handler.ensures.was ∙ ap (λ o. Some o) c.unwrap-handler.ensures)

pub returns-clause-handlers : goal.returns-clause-handlers
returns-clause-handlers g c =
    subst (λ t. c.swap_handler.new.self.handlers ≡ slice_set t.handlers c.args.call None) c.self.view_is
    (c.swap_handler.ensures.handlers ∙ ap (λ hs. slice_set hs c.args.call None) c.change.ensures.changes.handlers)

pub unwrap-oldest-requires : goal.unwrap-oldest-requires
unwrap-oldest-requires g c = c.change.ensures.starts

pub unwrap-handler-requires : goal.unwrap-handler-requires
unwrap-handler-requires g c =
    c.requires.handled c.swap_handler.result (subst (λ t. slice_get t.handlers c.args.call ≡ Some c.swap_handler.result) c.self.view_is
    (ap (λ hs. slice_get hs c.args.call) (sym c.change.ensures.changes.handlers) ∙ c.swap_handler.ensures.was))
