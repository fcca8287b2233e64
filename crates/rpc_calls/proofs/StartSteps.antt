-- What a table stands for, over a Start.
use Rattle.std.proofs.Common.{◌≡◌, ◌≢◌, ◌⊎◌, ℕ, ◌+◌, ◌<◌, ◌≤◌, Bool, true, false, not, ◌&&◌, ◌||◌, ◌==◌, List, ◌∷◌, length, map, drop, slice_get, Option, Some, None, is_some, is_none, refl, ap, sym, ◌∙◌, subst, inl, inr, arith, eq-eqb, ne_eqb}
use Rattle.std.proofs.lemmas.Bool.{true≢false, false≢true, and_parts, not-true}
use Rattle.std.proofs.lemmas.List.{append-nil, length-drop}
use Rattle.rpc_channel.specs.Rising.{has_id}
use Rattle.rpc_handlers.specs.declared.event.Memo.{Memo}
use Rattle.rpc_handlers.specs.HandlerRule.{HandlerRule}
use Rattle.rpc_journal.specs.declared.table.call_state.CallState.{CallState}
use Rattle.rpc_journal.specs.declared.table.call_states.CallStates.{CallStates}
use Rattle.rpc_journal.specs.declared.entry.EntryKind.TheVariants.{Start}
use Rattle.rpc_journal.specs.declared.item.Item.{Item}
use Rattle.rpc_journal.specs.declared.setting.Setting.{Setting}
use Rattle.rpc_journal.specs.declared.waiting.Waiting.{Waiting}
use Rattle.rpc_journal.specs.Calls.{call_count, runner_of}
use Rattle.rpc_journal.specs.Effect.{Deed}
use Rattle.rpc_journal.specs.History.{deeds_with, entry_by}
use Rattle.rpc_journal.specs.Items.{flush_count, is_ready, items_sent}
use Rattle.rpc_journal.specs.Kinds.{is_empty}
use Rattle.rpc_journal.specs.Queues.{waiting_of}
use Rattle.rpc_journal.specs.Rows.{no_effect}
use Rattle.rpc_journal.specs.table.Agrees.{AgreesOn, AgreesOnCalls}
use Rattle.rpc_journal.specs.table.Touch.{starting}
use Rattle.rpc_journal.proofs.table.KnownStates.{silent_waits}
use Rattle.rpc_journal.proofs.table.NewestLemmas.{newest_kept}
use Rattle.rpc_journal.proofs.PlaceLemmas.{below_or_not, get_some, some_same}
use Rattle.rpc_journal.proofs.RunLemmas.{ready_idle, ready_uncancelled}
use Rattle.rpc_calls.specs.Marks.{one_if}
use Rattle.rpc_calls.specs.Handlers.{is_over, IsHandlerOf, Keeps}
use Rattle.rpc_calls.specs.Outside.{SameOutside}
use Rattle.rpc_calls.specs.Places.{ChangesAt}
use Rattle.rpc_calls.specs.Room.{uncancelled, running, items_owed, HasPlaces}
use Rattle.rpc_calls.specs.TableHolds.{StandsFor, HasAllRoom}
use Rattle.rpc_journal.specs.table.Turns.{Turns}
use Rattle.rpc_calls.proofs.KeepLemmas.{keeps_started, has_handler}
use Rattle.rpc_calls.proofs.OneStep.{TouchesOne, agrees_one, keeps_one, counts_one, places_one}
use Rattle.rpc_calls.proofs.StateLemmas.{StartsHandler}
use Rattle.rpc_calls.proofs.TouchTables.{at_most_one}
use Rattle.rpc_calls.proofs.StepLemmas.{over_is}

start_deed : ℕ → ℕ → Deed
start_deed seat c = record { entry = entry_by seat (Start c); does = no_effect }

start_touches : (seat c : ℕ) → TouchesOne (start_deed seat c) c (starting seat)
unfolding start_deed
start_touches seat c = record {
  here = record { starts = rw (eq-eqb c c refl) refl; finishes = refl; cancels = refl; completes = refl; ends = refl; clears = refl; puts = refl; alone = λ h. (refl, refl) };
  others = λ k apart. record { starts = rw (ne_eqb c k (λ same. apart (sym same))) refl; finishes = refl; cancels = refl; completes = refl; ends = refl; clears = refl; puts = refl; alone = λ h. absurd (false≢true h) };
  unopened = refl;
}

-- what a ready call is in a table
pub record IsReadyRow (r : CallState) : Type 0 where
  pub waits : is_empty r.waiting.items ≡ false
  pub idle : r.run ≡ None
  pub uncancelled : r.cancelled ≡ false

none_run : (o : Option ℕ) → is_none o ≡ true → o ≡ None
none_run None is = refl
none_run (Some s) is = absurd (false≢true is)

pub ready_row : (ds : List Deed) (c : ℕ) (r : CallState) → is_ready ds c ≡ true → AgreesOn ds c r → IsReadyRow r
ready_row ds c r ready agrees = record {
  waits = ap is_empty (sym agrees.waiting) ∙ not-true _ (and_parts _ _ (and_parts _ _ (and_parts _ _ (and_parts _ _ ready).0).0).0).0;
  idle = sym agrees.run ∙ none_run (runner_of ds c) (ready_idle ds c ready);
  uncancelled = sym agrees.cancelled ∙ ready_uncancelled ds c ready;
}

pub ready_there : (ds : List Deed) (states : List CallState) (c : ℕ) → is_ready ds c ≡ true → AgreesOnCalls ds states → c < length states
ready_there ds states c ready agrees = at (below_or_not c (call_count ds))
  where
    waits : is_empty (waiting_of ds c) ≡ false
    waits = not-true _ (and_parts _ _ (and_parts _ _ (and_parts _ _ (and_parts _ _ ready).0).0).0).0

    at : (c < call_count ds) ⊎ (call_count ds ≤ c) → c < length states
    at (inl below) = omega (arith, below, agrees.many)
    at (inr past) = absurd (true≢false (sym (ap is_empty (silent_waits ds c (agrees.beyond c past))) ∙ waits))

going : (b s e : Bool) → b ≡ false → e ≡ false → (b || (s && e)) ≡ false
going b true e is waits = rw (is, waits) refl
going b false e is waits = rw is refl

front_event : (ws rest : List Waiting) (w : Waiting) → ws ≡ w ∷ rest → slice_get (map (λ x. x.event) ws) 0 ≡ Some w.event
front_event ws rest w is = rw is refl

module _ {H : Type 0} (now : H → Memo) (can_act : H → Type 0) (rule : HandlerRule) (set : Setting) where
  -- a ready call has its handler
  pub ready_slot : (ds : List Deed) (states : CallStates) (handlers : List (Option H)) (items : List Item) (c : ℕ) (slot : Option H)
      → StandsFor now can_act rule set ds states handlers items → is_ready ds c ≡ true → slice_get handlers c ≡ Some slot → is_some slot ≡ true
  ready_slot ds states handlers items c slot stands ready is =
      let row = get_some states.calls.items c (ready_there ds states.calls.items c ready stands.agrees.calls) in
      let agrees = stands.agrees.calls.each c row.0 row.1 in
      let its = ready_row ds c row.0 ready agrees in
      let over : is_over ds c ≡ false = over_is ds c row.0 agrees ∙ going row.0.cancelled (is_some row.0.status) (is_empty row.0.waiting.items) its.uncancelled its.waits in
      has_handler now can_act rule set ds c slot over
      (subst (λ o. Keeps now can_act rule set ds c o slot) (none_run (runner_of ds c) (ready_idle ds c ready)) (stands.keeps.each c slot is))

  -- and it can be asked, and has the state of the history
  pub ready_handler : (ds : List Deed) (states : CallStates) (handlers : List (Option H)) (items : List Item) (c : ℕ) (h : H)
      → StandsFor now can_act rule set ds states handlers items → is_ready ds c ≡ true → slice_get handlers c ≡ Some (Some h)
      → IsHandlerOf now can_act rule set ds c h
  ready_handler ds states handlers items c h stands ready is =
      subst (λ o. Keeps now can_act rule set ds c o (Some h)) (none_run (runner_of ds c) (ready_idle ds c ready)) (stands.keeps.each c (Some h) is)

  pub stands_started : (ds : List Deed) (seat c : ℕ) (states after : CallStates) (handlers later : List (Option H)) (items : List Item)
      → StandsFor now can_act rule set ds states handlers items → is_ready ds c ≡ true
      → ChangesAt c (Turns (length ds) (starting seat)) states.calls.items after.calls.items → SameOutside states after
      → length later ≡ length handlers → ((k : ℕ) → k ≢ c → slice_get later k ≡ slice_get handlers k) → slice_get later c ≡ Some None
      → StandsFor now can_act rule set (deeds_with set ds (entry_by seat (Start c))) after later items
  unfolding start_deed
  stands_started ds seat c states after handlers later items stands ready changes same many others left =
      let d : Deed = start_deed seat c in
      let there = ready_there ds states.calls.items c ready stands.agrees.calls in
      let calls = agrees_one ds d states.calls.items after.calls.items c (starting seat) stands.agrees.calls (start_touches seat c) changes there in
      let sent : items_sent (d ∷ ds) ≡ items_sent ds = append-nil (items_sent ds) in
      let own : (c == c) ≡ true = eq-eqb c c refl in
      let starts : StartsHandler ds d c = record { start = own; finish = refl; replace = refl; opens = refl } in
      let runs : runner_of (d ∷ ds) c ≡ Some seat = rw own refl in
      record {
        agrees = record {
          calls = calls;
          newest = newest_kept ds d states.newest after.newest stands.agrees.newest refl same.newest;
          items = omega (arith, stands.agrees.items, same.unflushed, ap length sent);
          closed = λ x. ap (λ xs. has_id xs x) same.closed ∙ stands.agrees.closed x;
          input = same.input ∙ stands.agrees.input;
          halt = same.halt ∙ stands.agrees.halt;
        };
        keeps = keeps_one now can_act rule set ds d states.calls.items after.calls.items c (starting seat) handlers later stands.agrees.calls calls
            (start_touches seat c) changes (λ k apart. refl) stands.keeps many others
            (λ slot is.
            let none : None ≡ slot = some_same None slot (sym left ∙ is) in
            subst (λ s. Keeps now can_act rule set (d ∷ ds) c (runner_of (d ∷ ds) c) s) none
            (subst (λ o. Keeps now can_act rule set (d ∷ ds) c o None) (sym runs) (keeps_started now can_act rule set ds d c seat starts)));
        queue = stands.queue ∙ ap (drop (flush_count ds)) (sym sent);
      }

pub room_started : (at seat c : ℕ) (states after : CallStates) (items : List Item) (r : CallState) (spare spare' capacity capacity' : ℕ)
    → HasAllRoom states items spare capacity → c < length states.calls.items → slice_get states.calls.items c ≡ Some r → IsReadyRow r
    → ChangesAt c (Turns at (starting seat)) states.calls.items after.calls.items → SameOutside states after
    → length items + items_owed states.calls.items + 513 ≤ capacity'
    → length items + items_owed states.calls.items + 513 + (uncancelled states.calls.items + running states.calls.items + 2) + 2 ≤ spare' + 1
    → HasAllRoom after items spare' capacity'
room_started at seat c states after items r spare spare' capacity capacity' room there is ready changes same places records =
    let it = get_some after.calls.items c (omega (arith, there, changes.many)) in
    let turns = changes.here r it.0 is it.1 in
    let counts = counts_one _ states.calls.items after.calls.items c r it.0 changes is it.1 in
    let was : one_if (is_some r.run) ≡ 0 = ap (λ o. one_if (is_some o)) ready.idle in
    let now_runs : one_if (is_some it.0.run) ≡ 1 = ap (λ o. one_if (is_some o)) turns.is.run in
    let kept : one_if (not it.0.cancelled) ≡ one_if (not r.cancelled) = ap (λ b. one_if (not b)) turns.is.cancelled in
    let more : running after.calls.items ≡ running states.calls.items + 1 = omega (arith, counts.busy, was, now_runs) in
    let still : uncancelled after.calls.items ≡ uncancelled states.calls.items = omega (arith, counts.going, kept) in
    record {
      room = record {
        items_fit = omega (arith, places, more, still);
        entries_fit = omega (arith, records, more, still, at_most_one after.input_ended, at_most_one (is_some after.halted));
      };
      places = subst (λ b. HasPlaces after.calls.items b) (sym same.input)
          (places_one at (starting seat) states.calls.items after.calls.items c states.input_ended changes there
          (λ q x turn open_still. (sym turn.is.status ∙ open_still, omega (arith, ap length turn.is.waiting, length-drop 1 q.waiting.items))) room.places);
      few = omega (arith, room.few, changes.many);
    }
