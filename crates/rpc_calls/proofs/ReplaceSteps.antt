-- A table over a Replace.
use Rattle.std.proofs.Common.{◌≡◌, ◌≢◌, ℕ, ◌+◌, ◌<◌, ◌≤◌, List, ◌∷◌, length, slice_get, Option, Some, None, Ok, is_some, is_none, refl, ap, sym, ◌∙◌, subst, arith, eq-eqb, ne_eqb}
use Rattle.std.proofs.lemmas.Bool.{false≢true}
use Rattle.std.proofs.lemmas.List.{append-nil}
use Rattle.rpc_handlers.specs.declared.event.Memo.{Memo}
use Rattle.rpc_handlers.specs.HandlerRule.{HandlerRule}
use Rattle.rpc_journal.specs.declared.table.call_state.CallState.{CallState}
use Rattle.rpc_journal.specs.declared.table.call_states.CallStates.{CallStates}
use Rattle.rpc_journal.specs.declared.entry.EntryKind.TheVariants.{Replace}
use Rattle.rpc_journal.specs.declared.item.Item.{Item}
use Rattle.rpc_journal.specs.declared.setting.Setting.{Setting}
use Rattle.rpc_journal.specs.Calls.{runner_of}
use Rattle.rpc_journal.specs.ChangeLaws.{KeepsLegal}
use Rattle.rpc_journal.specs.Changes.{ReplaceDid}
use Rattle.rpc_journal.specs.Effect.{Deed}
use Rattle.rpc_journal.specs.History.{history, adding, deed_by}
use Rattle.rpc_journal.specs.Recorded.{Recorded}
use Rattle.rpc_journal.specs.Refusals.{replace_refusal}
use Rattle.rpc_journal.specs.Rows.{no_effect}
use Rattle.rpc_journal.specs.table.Touch.{Touches, untouched}
use Rattle.rpc_journal.proofs.LegalLemmas.{keeps_legal}
use Rattle.rpc_journal.proofs.PlaceLemmas.{some_same}
use Rattle.rpc_journal.proofs.table.AgreeLemmas.{is_untouched}
use Rattle.rpc_calls.specs.Handlers.{Keeps}
use Rattle.rpc_calls.specs.Places.{ChangesAt}
use Rattle.rpc_calls.specs.Room.{uncancelled, running, items_owed}
use Rattle.rpc_calls.specs.TableHolds.{IsTable}
use Rattle.rpc_journal.specs.table.Turns.{Turns}
use Rattle.rpc_calls.proofs.TouchTables.{room_grown}
use Rattle.rpc_calls.proofs.CallSteps.{stands_one}
use Rattle.rpc_calls.proofs.CalmSteps.{table_after}
use Rattle.rpc_calls.proofs.FlushSteps.{waits_one}
use Rattle.rpc_calls.proofs.KeepLemmas.{keeps_replaced}

replace_touches : (seat c : ℕ) (m : Memo) (k : ℕ) → Touches (deed_by seat (Replace c m) no_effect) k untouched
replace_touches seat c m k = record { starts = refl; finishes = refl; cancels = refl; completes = refl; ends = refl; clears = refl; puts = refl; alone = λ h. absurd (false≢true h) }

pub unchanged : (at c : ℕ) (states : List CallState) → ChangesAt c (Turns at untouched) states states
unchanged at c states = record {
  many = refl;
  others = λ k apart. refl;
  here = λ r x is there. subst (λ z. Turns at untouched r z) (some_same r x (sym is ∙ there)) (record { is = is_untouched at r; capacity = omega arith });
}

module _ {H : Type 0} (now : H → Memo) (can_act : H → Type 0) (rule : HandlerRule) (set : Setting) where
  pub record Replaces (recorded after : Recorded) (seat c : ℕ) (m : Memo) (states : CallStates) (left : List (Option H)) (items' : List Item) (capacity : ℕ) (old : Option H) : Type 0 where
    pub table : IsTable now can_act rule set after states left items' capacity
    pub did : ReplaceDid {H = H} set seat c m (Ok old) recorded.entries after.entries

  pub table_replaced : (recorded after : Recorded) (seat c : ℕ) (m : Memo) (h : H) (old : Option H) (states : CallStates) (handlers left : List (Option H)) (items items' : List Item) (capacity capacity' spare : ℕ)
      → IsTable now can_act rule set recorded states handlers items capacity → replace_refusal set recorded.entries c ≡ None → c < length states.calls.items
      → can_act h → m ≡ now h → is_some old ≡ is_none (runner_of (history set recorded.entries) c)
      → length left ≡ length handlers → ((k : ℕ) → k ≢ c → slice_get left k ≡ slice_get handlers k) → slice_get left c ≡ Some (Some h)
      → items' ≡ items → after.entries ≡ adding recorded.entries seat (Replace c m) → after.spare + 1 ≡ spare
      → length items + items_owed states.calls.items + 0 ≤ capacity'
      → length items + items_owed states.calls.items + 0 + (uncancelled states.calls.items + running states.calls.items + 2) + 1 ≤ spare
      → Replaces recorded after seat c m states left items' capacity' old
  table_replaced recorded after seat c m h old states handlers left items items' capacity capacity' spare is unrefused there able state given many others put same adds spent places records =
      let ds : List Deed = history set recorded.entries in
      let d : Deed = deed_by seat (Replace c m) no_effect in
      let did : ReplaceDid {H = H} set seat c m (Ok old) recorded.entries after.entries =
      record { unrefused = unrefused; answer = given; adds = adds; cause = tt; kept = tt } in
      let laws : KeepsLegal H (Unit {0}) = keeps_legal in
      record {
        table = table_after now can_act rule set recorded after seat (Replace c m) states left items' capacity' adds
            (laws.replace rule set seat c m (Ok old) recorded.entries after.entries is.legal did)
            (stands_one now can_act rule set ds d c untouched states states handlers left items items' is.stands
            (record { flushes_none = refl; goes_on = refl; unhalted = refl; unclosed = refl })
            (record { here = replace_touches seat c m c; others = λ k apart. replace_touches seat c m k; unopened = refl })
            (unchanged (length ds) c states.calls.items) there
            (record {
              says = same ∙ sym (append-nil items);
              unflushed = sym (waits_one now can_act rule set recorded states handlers items capacity is) ∙ ap length (sym same);
              input = refl;
              halt = refl;
              closed = refl;
            })
            refl
            (λ k apart. ne_eqb c k (λ it. apart (sym it))) many others
            (λ calls slot slot_is.
            subst (λ s. Keeps now can_act rule set (d ∷ ds) c (runner_of (d ∷ ds) c) s) (some_same (Some h) slot (sym put ∙ slot_is))
            (keeps_replaced now can_act rule set ds d c (runner_of (d ∷ ds) c) h
            (record { start = refl; replace = eq-eqb c c refl; state = ap Some state }) able)))
            (room_grown states states items items' 0 after.spare capacity' refl refl (omega (arith, ap length same)) is.room.places is.room.few places
            (subst (λ n. length items + items_owed states.calls.items + 0 + (uncancelled states.calls.items + running states.calls.items + 2) + 1 ≤ n) (sym spent) records));
        did = did;
      }
