use Rattle.std.proofs.Common.{◌≡◌, ◌∙◌, Some, None, IfSome, length, slice_get, is_some, if◌then◌else◌, refl, ap, sym, subst}
use Rattle.std.proofs.lemmas.Option.{slice_get_within}
use Rattle.rpc_journal.specs.table.Touch.{cancelling}
use Rattle.rpc_journal.specs.table.Turns.{Turns}
use Rattle.rpc_calls.specs.Places.{ChangesAt}
use Rattle.rpc_calls.proofs.EndSteps.{turns_anywhere}
use Rattle.rpc_calls.proofs.PlaceChanges.{set_at, set_many, set_others}
use Rattle.rpc_calls.proofs.indexed_states.handlers.cancel_one.Goals as goal

pub returns-in-Some-true-clause-change : goal.returns-in-Some-true-clause-change
returns-in-Some-true-clause-change g c = λ at. turns_anywhere c.args.call at (λ r. cancelling r.status) _ _ (λ r. refl) c.change.ensures.changes.change

pub returns-in-Some-false-clause-change : goal.returns-in-Some-false-clause-change
returns-in-Some-false-clause-change g c = λ at.
    subst (λ ss. ChangesAt c.args.call (λ r x. Turns at (cancelling r.status) r x) c.args.calls.now.states.calls.items ss.calls.items) (sym c.swap_handler.ensures.states)
    (turns_anywhere c.args.call at (λ r. cancelling r.status) _ _ (λ r. refl) c.change-in-Some-false.ensures.changes.change)

pub returns-in-Some-false-clause-handlers : goal.returns-in-Some-false-clause-handlers
returns-in-Some-false-clause-handlers g c = record {
  many = set_many _ _ _ _ c.swap_handler.ensures.handlers ∙ ap length c.change-in-Some-false.ensures.changes.handlers;
  others = λ k apart. set_others _ _ _ _ c.swap_handler.ensures.handlers k apart ∙ ap (λ hs. slice_get hs k) c.change-in-Some-false.ensures.changes.handlers;
  kept = λ slot r there is.
      set_at _ _ _ _ c.swap_handler.ensures.handlers (slice_get_within _ _ _ c.swap_handler.ensures.was)
      ∙ ap (λ b. Some (if b then slot else None)) (sym c.in-Some-false.field-0-test ∙ subst (λ o. IfSome o (λ runs. runs ≡ is_some r.run)) c.in-Some-false.is (c.run_of.ensures.runs r is));
}
