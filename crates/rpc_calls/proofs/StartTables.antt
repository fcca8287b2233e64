-- A table over a Start, and the run that begins.
use Rattle.std.proofs.Common.{◌≡◌, ◌≢◌, ℕ, ◌+◌, ◌<◌, ◌≤◌, true, not, ◌==◌, List, ◌∷◌, length, slice_get, Option, Some, None, refl, ap, sym, ◌∙◌, subst, arith, eq-eqb}
use Rattle.std.proofs.lemmas.Bool.{lt-leb}
use Rattle.rpc_handlers.specs.declared.event.Memo.{Memo}
use Rattle.rpc_handlers.specs.HandlerRule.{HandlerRule}
use Rattle.rpc_journal.specs.declared.table.call_state.CallState.{CallState}
use Rattle.rpc_journal.specs.declared.table.call_states.CallStates.{CallStates}
use Rattle.rpc_journal.specs.declared.entry.EntryKind.TheVariants.{Start}
use Rattle.rpc_journal.specs.declared.item.Item.{Item}
use Rattle.rpc_journal.specs.declared.setting.Setting.{Setting}
use Rattle.rpc_journal.specs.declared.waiting.Waiting.{Waiting}
use Rattle.rpc_journal.specs.Calls.{call_count}
use Rattle.rpc_journal.specs.Effect.{Deed}
use Rattle.rpc_journal.specs.History.{history, deeds_with, entry_by, adding}
use Rattle.rpc_journal.specs.Items.{is_ready}
use Rattle.rpc_journal.specs.Lawful.{IsLegal}
use Rattle.rpc_journal.specs.Queues.{taken_event, waiting_of}
use Rattle.rpc_journal.specs.Recorded.{Recorded}
use Rattle.rpc_journal.specs.Runs.{Begins}
use Rattle.rpc_journal.specs.table.Touch.{starting}
use Rattle.rpc_journal.proofs.Allowed.{Allowed, allow}
use Rattle.rpc_journal.proofs.PlaceLemmas.{get_some}
use Rattle.rpc_journal.proofs.Push.{history-push, legal-push}
use Rattle.rpc_calls.specs.Outside.{SameOutside}
use Rattle.rpc_calls.specs.Places.{ChangesAt}
use Rattle.rpc_calls.specs.Room.{uncancelled, running, items_owed}
use Rattle.rpc_calls.specs.TableHolds.{IsTable}
use Rattle.rpc_journal.specs.table.Turns.{Turns}
use Rattle.rpc_calls.proofs.CalmSteps.{table_after}
use Rattle.rpc_calls.proofs.StartSteps.{ready_row, ready_there, ready_handler, stands_started, room_started}

start_allowed : (set : Setting) (ds : List Deed) (seat c : ℕ) → is_ready ds c ≡ true → c < call_count ds → Allowed set ds (entry_by seat (Start c))
start_allowed set ds seat c ready below = record {
  seat = refl;
  input = refl;
  known = lt-leb (call_count ds) c below;
  started = ap not ready;
  finished = refl;
  accepted = refl;
  something = refl;
}

taken_first : (seat c : ℕ) (set : Setting) (ds : List Deed) (w : Waiting) (rest : List Waiting) → waiting_of ds c ≡ w ∷ rest
    → taken_event (deeds_with set ds (entry_by seat (Start c))) c ≡ Some w.event
taken_first seat c set ds w rest is =
    let own : (c == c) ≡ true = eq-eqb c c refl in
    rw (own, is) refl

module _ {H : Type 0} (now : H → Memo) (can_act : H → Type 0) (rule : HandlerRule) (set : Setting) where
  pub table_started : (recorded after : Recorded) (seat c : ℕ) (states later : CallStates) (handlers left : List (Option H)) (items items' : List Item) (capacity capacity' spare : ℕ)
      → IsTable now can_act rule set recorded states handlers items capacity → is_ready (history set recorded.entries) c ≡ true → items' ≡ items
      → ((at : ℕ) → ChangesAt c (Turns at (starting seat)) states.calls.items later.calls.items) → SameOutside states later
      → length left ≡ length handlers → ((k : ℕ) → k ≢ c → slice_get left k ≡ slice_get handlers k) → slice_get left c ≡ Some None
      → after.entries ≡ adding recorded.entries seat (Start c) → after.spare + 1 ≡ spare
      → length items + items_owed states.calls.items + 513 ≤ capacity'
      → length items + items_owed states.calls.items + 513 + (uncancelled states.calls.items + running states.calls.items + 2) + 2 ≤ spare
      → IsTable now can_act rule set after later left items' capacity'
  table_started recorded after seat c states later handlers left items items' capacity capacity' spare is ready unmoved changes same many others out adds spent places records =
      let ds : List Deed = history set recorded.entries in
      let there = ready_there ds states.calls.items c ready is.stands.agrees.calls in
      let row = get_some states.calls.items c there in
      let its = ready_row ds c row.0 ready (is.stands.agrees.calls.each c row.0 row.1) in
      let below : c < call_count ds = omega (arith, there, is.stands.agrees.calls.many) in
      let legal : IsLegal rule set after.entries =
      subst (IsLegal rule set) (sym adds) (legal-push rule set recorded.entries (entry_by seat (Start c)) is.legal (allow set ds (entry_by seat (Start c)) (start_allowed set ds seat c ready below)) tt) in
      subst (λ xs. IsTable now can_act rule set after later left xs capacity') (sym unmoved)
      (table_after now can_act rule set recorded after seat (Start c) later left items capacity' adds legal
      (stands_started now can_act rule set ds seat c states later handlers left items is.stands ready (changes (length ds)) same many others out)
      (room_started (length ds) seat c states later items row.0 recorded.spare after.spare capacity capacity' is.room there row.1 its (changes (length ds)) same places
      (subst (λ n. length items + items_owed states.calls.items + 513 + (uncancelled states.calls.items + running states.calls.items + 2) + 2 ≤ n) (sym spent) records)))

  -- the run that begins
  pub begins_run : (recorded after : Recorded) (seat c : ℕ) (states later : CallStates) (handlers : List (Option H)) (items : List Item) (capacity : ℕ) (w : Waiting) (h : H)
      → IsTable now can_act rule set recorded states handlers items capacity → is_ready (history set recorded.entries) c ≡ true
      → ((at : ℕ) → ChangesAt c (Turns at (starting seat)) states.calls.items later.calls.items)
      → ((r x : CallState) → slice_get states.calls.items c ≡ Some r → slice_get later.calls.items c ≡ Some x → r.waiting.items ≡ w ∷ x.waiting.items)
      → slice_get handlers c ≡ Some (Some h) → after.entries ≡ adding recorded.entries seat (Start c)
      → Begins rule set seat (record { call = c; seat = seat; place = length recorded.entries; event = w.event; state = now h }) recorded.entries after.entries
  begins_run recorded after seat c states later handlers items capacity w h is ready changes oldest kept adds =
      let ds : List Deed = history set recorded.entries in
      let there = ready_there ds states.calls.items c ready is.stands.agrees.calls in
      let row = get_some states.calls.items c there in
      let it = get_some later.calls.items c (omega (arith, there, (changes 0).many)) in
      let waits : waiting_of ds c ≡ w ∷ it.0.waiting.items = (is.stands.agrees.calls.each c row.0 row.1).waiting ∙ oldest row.0 it.0 row.1 it.1 in
      let grown : history set after.entries ≡ deeds_with set ds (entry_by seat (Start c)) = ap (history set) adds ∙ history-push set recorded.entries (entry_by seat (Start c)) in
      record {
        adds = adds;
        own_seat = refl;
        newest = refl;
        takes = subst (λ es. taken_event es c ≡ Some w.event) (sym grown) (taken_first seat c set ds w it.0.waiting.items waits);
        has = (ready_handler now can_act rule set ds states handlers items c h is.stands ready kept).state;
      }
