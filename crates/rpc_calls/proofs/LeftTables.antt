-- A table of which a call has left.
use Rattle.std.proofs.Common.{◌≡◌, ◌≢◌, ◌⊎◌, inl, inr, ℕ, ◌<◌, Bool, true, false, ◌||◌, List, length, slice_get, slice_set, length-set, Option, Some, None, refl, ap, sym, ◌∙◌, subst, arith}
use Rattle.std.proofs.lemmas.Option.{slice_get_within}
use Rattle.rpc_handlers.specs.declared.event.Memo.{Memo}
use Rattle.rpc_handlers.specs.HandlerRule.{HandlerRule}
use Rattle.rpc_journal.specs.declared.table.call_state.CallState.{CallState}
use Rattle.rpc_journal.specs.declared.table.call_states.CallStates.{CallStates}
use Rattle.rpc_journal.specs.declared.item.Item.{Item}
use Rattle.rpc_journal.specs.declared.setting.Setting.{Setting}
use Rattle.rpc_journal.specs.Calls.{runner_of}
use Rattle.rpc_journal.specs.Effect.{Deed}
use Rattle.rpc_journal.specs.History.{history}
use Rattle.rpc_journal.specs.Recorded.{Recorded}
use Rattle.rpc_journal.specs.table.Agrees.{AgreesOn}
use Rattle.rpc_journal.proofs.PlaceLemmas.{get_some, some_same}
use Rattle.rpc_journal.proofs.table.StepLemmas.{get_other, get_set, same_or_not}
use Rattle.rpc_calls.specs.Facts.{IsDoneWith, is_done_with}
use Rattle.rpc_calls.specs.Handlers.{Keeps, over_state}
use Rattle.rpc_calls.specs.Roll.{Roll}
use Rattle.rpc_calls.specs.RunEnds.{HandlersLeft}
use Rattle.rpc_calls.specs.TableHolds.{IsTable}
use Rattle.rpc_calls.proofs.InUseSteps.{done_is}
use Rattle.rpc_calls.proofs.StepLemmas.{over_is}

or_true : (a : Bool) → (a || true) ≡ true
or_true true = refl
or_true false = refl

done_over : (x : CallState) → IsDoneWith x → over_state x ≡ true
done_over x done = rw (done.over, done.empty) (or_true x.cancelled)

module _ {H : Type 0} (now : H → Memo) (can_act : H → Type 0) (rule : HandlerRule) (set : Setting) where
  -- nothing is kept for a call that is done with
  keeps_none : (ds : List Deed) (c : ℕ) (x : CallState) → AgreesOn ds c x → IsDoneWith x → Keeps now can_act rule set ds c (runner_of ds c) None
  keeps_none ds c x agrees done =
      subst (λ run. Keeps now can_act rule set ds c run None) (sym (agrees.run ∙ done.idle)) (over_is ds c x agrees ∙ done_over x done)

  pub table_left : (recorded : Recorded) (c : ℕ) (states : CallStates) (handlers : List (Option H)) (items : List Item) (capacity : ℕ)
      → IsTable now can_act rule set recorded states handlers items capacity
      → ((x : CallState) → slice_get states.calls.items c ≡ Some x → is_done_with x ≡ true)
      → IsTable now can_act rule set recorded states (slice_set handlers c None) items capacity
  table_left recorded c states handlers items capacity is done = record {
    legal = is.legal;
    stands = record {
      agrees = is.stands.agrees;
      keeps = record { many = length-set handlers c None ∙ is.stands.keeps.many; each = λ k slot there. each k slot there (same_or_not k c) };
      queue = is.stands.queue;
    };
    room = is.room;
  }
    where
      ds : List Deed
      ds = history set recorded.entries

      each : (k : ℕ) (slot : Option H) → slice_get (slice_set handlers c None) k ≡ Some slot → (k ≡ c) ⊎ (k ≢ c) → Keeps now can_act rule set ds k (runner_of ds k) slot
      each k slot there (inl same) =
          let inside : c < length handlers = omega (arith, slice_get_within (slice_set handlers c None) k slot there, length-set handlers c None, same) in
          let row = get_some states.calls.items c (omega (arith, inside, is.stands.keeps.many, is.stands.agrees.calls.many)) in
          let none : None ≡ slot = some_same None slot (sym (get_set handlers c None inside) ∙ ap (slice_get (slice_set handlers c None)) (sym same) ∙ there) in
          subst (λ j. Keeps now can_act rule set ds j (runner_of ds j) slot) (sym same)
          (subst (λ o. Keeps now can_act rule set ds c (runner_of ds c) o) none
          (keeps_none ds c row.0 (is.stands.agrees.calls.each c row.0 row.1) (done_is row.0 (done row.0 row.1))))
      each k slot there (inr apart) = is.stands.keeps.each k slot (sym (get_other handlers c k None apart) ∙ there)

  -- a call may have left, and its handler with it
  pub table_may_leave : (recorded : Recorded) (c : ℕ) (new : Roll H) (between : List (Option H)) (items : List Item) (capacity : ℕ)
      → IsTable now can_act rule set recorded new.states between items capacity → HandlersLeft c between new
      → IsTable now can_act rule set recorded new.states new.handlers items capacity
  table_may_leave recorded c new between items capacity is left = by left.how
    where
      by : (new.handlers ≡ between) ⊎ ((new.handlers ≡ slice_set between c None) × ((x : CallState) → slice_get new.states.calls.items c ≡ Some x → is_done_with x ≡ true))
          → IsTable now can_act rule set recorded new.states new.handlers items capacity
      by (inl same) = subst (λ hs. IsTable now can_act rule set recorded new.states hs items capacity) (sym same) is
      by (inr went) = subst (λ hs. IsTable now can_act rule set recorded new.states hs items capacity) (sym went.0) (table_left recorded c new.states between items capacity is went.1)
