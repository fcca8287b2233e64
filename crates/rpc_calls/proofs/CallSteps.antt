-- What a table stands for, over any entry that touches one call and neither begins nor ends a run of another.
use Rattle.std.proofs.Common.{◌≡◌, ◌≢◌, ℕ, ◌<◌, ◌≤◌, false, List, ◌∷◌, ◌++◌, length, drop, slice_get, Option, Some, None, refl, ap, sym, ◌∙◌, subst, arith, length-append, length-drop}
use Rattle.rpc_channel.specs.Rising.{has_id}
use Rattle.rpc_journal.specs.Rows.{channel_closed}
use Rattle.rpc_handlers.specs.declared.event.Memo.{Memo}
use Rattle.rpc_handlers.specs.HandlerRule.{HandlerRule}
use Rattle.rpc_journal.specs.declared.table.call_state.CallState.{CallState}
use Rattle.rpc_journal.specs.declared.table.call_states.CallStates.{CallStates}
use Rattle.rpc_journal.specs.declared.item.Item.{Item}
use Rattle.rpc_journal.specs.declared.setting.Setting.{Setting}
use Rattle.rpc_journal.specs.Calls.{is_replace_of, runner_of}
use Rattle.rpc_journal.specs.Effect.{Deed}
use Rattle.rpc_journal.specs.Items.{flush_count, is_end_in, is_flush, items_sent, reason_of}
use Rattle.rpc_journal.specs.table.Newest.{AreNewest}
use Rattle.rpc_journal.specs.table.Agrees.{AgreesOnCalls, Agrees}
use Rattle.rpc_journal.specs.table.Touch.{Touch, Touches, untouched}
use Rattle.rpc_journal.proofs.table.NewestLemmas.{newest_kept}
use Rattle.rpc_journal.proofs.PlaceLemmas.{get_some}
use Rattle.rpc_calls.specs.Handlers.{Keeps}
use Rattle.rpc_calls.specs.Places.{ChangesAt}
use Rattle.rpc_calls.specs.TableHolds.{StandsFor}
use Rattle.rpc_journal.specs.table.Turns.{Turns}
use Rattle.rpc_calls.proofs.CalmSteps.{TouchesCalmly, untouching, unopened, keeps_all_calm, queue_grows}
use Rattle.rpc_calls.proofs.OneStep.{TouchesOne, agrees_one, keeps_one}
use Rattle.rpc_calls.proofs.StepLemmas.{IsCalm, keeps_calm, agrees_calm}

-- the entry is no Flush, EndIn, Halt or Close
pub record IsCallEntry (d : Deed) : Type 0 where
  pub flushes_none : is_flush d.entry.kind ≡ false
  pub goes_on : is_end_in d.entry.kind ≡ false
  pub unhalted : reason_of d.entry.kind ≡ None
  pub unclosed : channel_closed d.entry.kind ≡ None

-- the table's items grow by those of the entry
pub record GrowsBy (d : Deed) (states after : CallStates) (items items' : List Item) : Type 0 where
  pub says : items' ≡ items ++ d.does.says
  pub unflushed : after.unflushed ≡ length items'
  pub input : after.input_ended ≡ states.input_ended
  pub halt : after.halted ≡ states.halted
  pub closed : after.closed.items ≡ states.closed.items

-- the queue, the input and the halt
pub agrees_grown : (ds : List Deed) (d : Deed) (states after : CallStates) (items items' : List Item) → Agrees ds states
    → items ≡ drop (flush_count ds) (items_sent ds) → IsCallEntry d → GrowsBy d states after items items' → AgreesOnCalls (d ∷ ds) after.calls.items → AreNewest (d ∷ ds) after.newest
    → Agrees (d ∷ ds) after × (items' ≡ drop (flush_count (d ∷ ds)) (items_sent (d ∷ ds)))
agrees_grown ds d states after items items' agrees queue entry grows calls newest =
    let within : flush_count ds ≤ length (items_sent ds) = omega (arith, agrees.items) in
    let same : flush_count (d ∷ ds) ≡ flush_count ds = rw (entry.flushes_none) refl in
    let next : items' ≡ drop (flush_count ds) (items_sent ds ++ d.does.says) = grows.says ∙ queue_grows items (items_sent ds) d.does.says (flush_count ds) within queue in (
      record {
        calls = calls;
        newest = newest;
        closed = λ x. rw entry.unclosed (ap (λ xs. has_id xs x) grows.closed ∙ agrees.closed x);
        items = omega (arith, same, grows.unflushed, ap length next, length-drop (flush_count ds) (items_sent ds ++ d.does.says), within, length-append (items_sent ds) d.does.says);
        input = grows.input ∙ agrees.input ∙ rw (entry.goes_on) refl;
        halt = grows.halt ∙ agrees.halt ∙ rw (entry.unhalted) refl;
      },
      next ∙ ap (λ n. drop n (items_sent (d ∷ ds))) (sym same),
    )

module _ {H : Type 0} (now : H → Memo) (can_act : H → Type 0) (rule : HandlerRule) (set : Setting) where
  pub stands_one : (ds : List Deed) (d : Deed) (c : ℕ) (t : Touch) (states after : CallStates) (handlers later : List (Option H)) (items items' : List Item)
      → StandsFor now can_act rule set ds states handlers items → IsCallEntry d → TouchesOne d c t
      → ChangesAt c (Turns (length ds) t) states.calls.items after.calls.items → c < length states.calls.items → GrowsBy d states after items items' → after.newest ≡ states.newest
      → ((k : ℕ) → k ≢ c → is_replace_of k d.entry.kind ≡ false)
      → length later ≡ length handlers → ((k : ℕ) → k ≢ c → slice_get later k ≡ slice_get handlers k)
      → (AgreesOnCalls (d ∷ ds) after.calls.items → (slot : Option H) → slice_get later c ≡ Some slot → Keeps now can_act rule set (d ∷ ds) c (runner_of (d ∷ ds) c) slot)
      → StandsFor now can_act rule set (d ∷ ds) after later items'
  stands_one ds d c t states after handlers later items items' stands entry one changes there grows newest unreplaced many others here =
      let calls = agrees_one ds d states.calls.items after.calls.items c t stands.agrees.calls one changes there in
      let grown = agrees_grown ds d states after items items' stands.agrees stands.queue entry grows calls (newest_kept ds d states.newest after.newest stands.agrees.newest one.unopened newest) in
      record {
        agrees = grown.0;
        keeps = keeps_one now can_act rule set ds d states.calls.items after.calls.items c t handlers later stands.agrees.calls calls one changes unreplaced stands.keeps many others (here calls);
        queue = grown.1;
      }

  -- where the entry neither begins nor ends a run of the call, nor replaces its handler
  pub stands_calm_one : (ds : List Deed) (d : Deed) (c : ℕ) (t : Touch) (states after : CallStates) (handlers : List (Option H)) (items items' : List Item)
      → StandsFor now can_act rule set ds states handlers items → IsCallEntry d → TouchesOne d c t
      → ChangesAt c (Turns (length ds) t) states.calls.items after.calls.items → c < length states.calls.items → GrowsBy d states after items items' → after.newest ≡ states.newest
      → ((k : ℕ) → is_replace_of k d.entry.kind ≡ false) → ((r : CallState) → slice_get states.calls.items c ≡ Some r → IsCalm t r)
      → StandsFor now can_act rule set (d ∷ ds) after handlers items'
  stands_calm_one ds d c t states after handlers items items' stands entry one changes there grows newest unreplaced calm =
      stands_one ds d c t states after handlers handlers items items' stands entry one changes there grows newest (λ k apart. unreplaced k) refl (λ k apart. refl)
      (λ calls slot is.
      let row = get_some states.calls.items c there in
      let it = get_some after.calls.items c (omega (arith, there, changes.many)) in
      keeps_calm now can_act rule set ds d c t row.0 it.0 slot (stands.agrees.calls.each c row.0 row.1) (calls.each c it.0 it.1)
      one.here (changes.here row.0 it.0 row.1 it.1).is (calm row.0 row.1) (unreplaced c) (unopened ds d c one.unopened) (stands.keeps.each c slot is))

  -- an entry that touches no call
  pub stands_none : (ds : List Deed) (d : Deed) (states after : CallStates) (handlers : List (Option H)) (items items' : List Item)
      → StandsFor now can_act rule set ds states handlers items → IsCallEntry d → ((c : ℕ) → Touches d c untouched) → d.does.opens ≡ None
      → after.calls.items ≡ states.calls.items → GrowsBy d states after items items' → after.newest ≡ states.newest → ((k : ℕ) → is_replace_of k d.entry.kind ≡ false)
      → StandsFor now can_act rule set (d ∷ ds) after handlers items'
  stands_none ds d states after handlers items items' stands entry none opens same grows newest unreplaced =
      let calls : AgreesOnCalls (d ∷ ds) states.calls.items = agrees_calm ds d states.calls.items stands.agrees.calls none opens in
      let grown = agrees_grown ds d states after items items' stands.agrees stands.queue entry grows (subst (AgreesOnCalls (d ∷ ds)) (sym same) calls) (newest_kept ds d states.newest after.newest stands.agrees.newest opens newest) in
      record {
        agrees = grown.0;
        keeps = keeps_all_calm now can_act rule set ds d states.calls.items states.calls.items handlers stands.agrees.calls calls refl
            (λ c r x is later. let it : r ≡ x = cc in subst (TouchesCalmly ds d c r) it (untouching ds d c r (none c))) unreplaced opens stands.keeps;
        queue = grown.1;
      }
