-- A table over a Cancel.
use Rattle.std.proofs.Common.{◌≡◌, ◌≢◌, ℕ, ◌+◌, ◌<◌, ◌≤◌, Bool, true, false, not, List, ◌∷◌, ◌++◌, length, slice_get, Option, Some, None, is_some, if◌then◌else◌, refl, ap, sym, ◌∙◌, subst, arith, length-append}
use Rattle.std.proofs.lemmas.Bool.{true≢false, false≢true}
use Rattle.std.proofs.lemmas.Option.{slice_get_within}
use Rattle.rpc_ids.specs.declared.method.Role.{Role}
use Rattle.rpc_ids.specs.declared.status.Status.{Status}
use Rattle.rpc_ids.specs.declared.status.Status.TheVariants.{Cancelled}
use Rattle.rpc_packet.specs.declared.call_name.CallName.{CallName}
use Rattle.rpc_handlers.specs.declared.event.Memo.{Memo}
use Rattle.rpc_handlers.specs.HandlerRule.{HandlerRule}
use Rattle.rpc_journal.specs.declared.table.call_state.CallState.{CallState}
use Rattle.rpc_journal.specs.declared.table.call_states.CallStates.{CallStates}
use Rattle.rpc_journal.specs.declared.entry.EntryKind.TheVariants.{Cancel}
use Rattle.rpc_journal.specs.declared.item.Item.{Item}
use Rattle.rpc_journal.specs.declared.setting.Setting.{Setting}
use Rattle.rpc_journal.specs.Calls.{call_at, call_count, is_cancelled, runner_of}
use Rattle.rpc_journal.specs.ChangeLaws.{KeepsLegal}
use Rattle.rpc_journal.specs.Changes.{CancelDid, cancel_answer}
use Rattle.rpc_journal.specs.Conditions.{IsCall}
use Rattle.rpc_journal.specs.Effect.{Effect, Deed}
use Rattle.rpc_journal.specs.Entries.{cancel_effect}
use Rattle.rpc_journal.specs.History.{history, deeds_with, entry_by, adding, deed_by}
use Rattle.rpc_journal.specs.Kinds.{or_else}
use Rattle.rpc_journal.specs.Recorded.{Recorded}
use Rattle.rpc_journal.specs.table.Agrees.{AgreesOn, AgreesOnCalls}
use Rattle.rpc_journal.specs.table.Touch.{cancelling}
use Rattle.rpc_journal.proofs.table.FinishLemmas.{cancel_one}
use Rattle.rpc_journal.proofs.LegalLemmas.{keeps_legal}
use Rattle.rpc_journal.proofs.PlaceLemmas.{get_some, some_same}
use Rattle.rpc_journal.proofs.table.TableLemmas.{ended_is, opening_is}
use Rattle.rpc_calls.specs.CancelItems.{cancel_items}
use Rattle.rpc_calls.specs.Marks.{one_if}
use Rattle.rpc_calls.specs.Handlers.{is_over, Keeps}
use Rattle.rpc_calls.specs.Places.{ChangesAt}
use Rattle.rpc_calls.specs.Room.{uncancelled, running, HasRoom, HasPlaces}
use Rattle.rpc_calls.specs.TableHolds.{StandsFor, HasAllRoom, IsTable}
use Rattle.rpc_journal.specs.table.Turns.{Turns}
use Rattle.rpc_calls.proofs.CallSteps.{IsCallEntry, stands_one}
use Rattle.rpc_calls.proofs.CalmSteps.{table_after, unopened}
use Rattle.rpc_calls.proofs.FinishSteps.{touches_one}
use Rattle.rpc_calls.proofs.OneStep.{counts_one, places_one}
use Rattle.rpc_calls.proofs.PlaceChanges.{count-has}
use Rattle.rpc_calls.proofs.StepLemmas.{keeps_calm, over_is}

-- what a Cancel adds
cancel_says : (set : Setting) (ds : List Deed) (c : ℕ) (r : CallState) → AgreesOn ds c r
    → (cancel_effect set ds c (call_at ds c)).says ≡ cancel_items set.role c r.name (is_some r.status) (is_some r.run)
cancel_says set ds c r agrees =
    let opening = opening_is ds c r agrees in
    rw (opening.1, ended_is ds c r agrees, agrees.run) (ap (λ n. cancel_items set.role c n (is_some r.status) (is_some r.run)) opening.2)

two_items : (role : Role) (c : ℕ) (name : CallName) (ended runs : Bool) → length (cancel_items role c name ended runs) ≤ 2
two_items role c name true true = omega arith
two_items role c name true false = omega arith
two_items role c name false true = omega arith
two_items role c name false false = omega arith

-- the states, items and handlers of a table change as the Cancel says
pub record CancelsCall {H : Type 0} (role : Role) (c : ℕ) (runs : Bool) (states after : CallStates) (handlers later : List (Option H)) (items items' : List Item) : Type 0 where
  pub says : (r : CallState) → slice_get states.calls.items c ≡ Some r → items' ≡ items ++ cancel_items role c r.name (is_some r.status) (is_some r.run)
  pub change : (at : ℕ) → ChangesAt c (λ r x. Turns at (cancelling r.status) r x) states.calls.items after.calls.items
  pub newest : after.newest ≡ states.newest
  pub unflushed : after.unflushed ≡ length items'
  pub input : after.input_ended ≡ states.input_ended
  pub halt : after.halted ≡ states.halted
  pub closed : after.closed.items ≡ states.closed.items
  pub many : length later ≡ length handlers
  pub others : (k : ℕ) → k ≢ c → slice_get later k ≡ slice_get handlers k
  pub kept : (slot : Option H) → slice_get handlers c ≡ Some slot → slice_get later c ≡ Some (if runs then slot else None)

cancel_entry : (seat c : ℕ) (e : Effect) → IsCallEntry (deed_by seat (Cancel c) e)
cancel_entry seat c e = record { flushes_none = refl; goes_on = refl; unhalted = refl; unclosed = refl }

-- a cancelled call needs no place
places_cut : (c : ℕ) (states new : List CallState) (ended : Bool) (r : CallState) → slice_get states c ≡ Some r
    → ChangesAt c (λ q x. Turns 0 (cancelling q.status) q x) states new → HasPlaces states ended → HasPlaces new ended
places_cut c states new ended r is changes free =
    places_one 0 (cancelling r.status) states new c ended
    (record {
      many = changes.many;
      others = changes.others;
      here = λ q x q_is x_is. subst (λ z. Turns 0 (cancelling z.status) q x) (some_same q r (sym q_is ∙ is)) (changes.here q x q_is x_is);
    })
    (slice_get_within states c r is)
    (λ q x turn unended. (open_before r.status q.status (sym turn.is.status ∙ unended), smaller q x turn)) free
  where
    open_before : (o p : Option Status) → or_else (if is_some o then None else Some Cancelled) p ≡ None → p ≡ None
    open_before None p is = absurd cc
    open_before (Some s) p is = is

    smaller : (q x : CallState) → Turns 0 (cancelling r.status) q x → length x.waiting.items ≤ length q.waiting.items
    smaller q x turn = omega (arith, ap length turn.is.waiting)

module _ {H : Type 0} (now : H → Memo) (can_act : H → Type 0) (rule : HandlerRule) (set : Setting) where
  pub stands_cancelled : (ds : List Deed) (seat c : ℕ) (states after : CallStates) (handlers later : List (Option H)) (items items' : List Item) (r : CallState) (runs : Bool)
      → StandsFor now can_act rule set ds states handlers items → slice_get states.calls.items c ≡ Some r → runs ≡ is_some r.run
      → CancelsCall set.role c runs states after handlers later items items'
      → StandsFor now can_act rule set (deeds_with set ds (entry_by seat (Cancel c))) after later items'
  stands_cancelled ds seat c states after handlers later items items' r runs stands is ran cancels =
      let d : Deed = deed_by seat (Cancel c) (cancel_effect set ds c (call_at ds c)) in
      let agrees = stands.agrees.calls.each c r is in
      let there : c < length states.calls.items = slice_get_within states.calls.items c r is in
      let one = touches_one d c (cancelling r.status) (cancel_one set ds seat c r agrees) in
      let changes : ChangesAt c (Turns (length ds) (cancelling r.status)) states.calls.items after.calls.items = record {
        many = (cancels.change (length ds)).many;
        others = (cancels.change (length ds)).others;
        here = λ q x q_is x_is. subst (λ z. Turns (length ds) (cancelling z.status) q x) (some_same q r (sym q_is ∙ is)) ((cancels.change (length ds)).here q x q_is x_is);
      } in
      stands_one now can_act rule set ds d c (cancelling r.status) states after handlers later items items' stands (cancel_entry seat c _) one changes there
      (record {
        says = cancels.says r is ∙ ap (λ xs. items ++ xs) (sym (cancel_says set ds c r agrees));
        unflushed = cancels.unflushed;
        input = cancels.input;
        halt = cancels.halt;
        closed = cancels.closed;
      })
      cancels.newest
      (λ k apart. refl) cancels.many cancels.others
      (λ calls slot' slot_is.
      let slot = get_some handlers c (omega (arith, there, stands.agrees.calls.many, stands.keeps.many)) in
      let it = get_some after.calls.items c (omega (arith, there, changes.many)) in
      let turns = changes.here r it.0 is it.1 in
      let same : (if runs then slot.0 else None) ≡ slot' = some_same _ slot' (sym (cancels.kept slot.0 slot.1) ∙ slot_is) in
      let over : is_over (d ∷ ds) c ≡ true = over_is (d ∷ ds) c it.0 (calls.each c it.0 it.1) ∙ rw (turns.is.cancelled) refl in
      let calm = keeps_calm now can_act rule set ds d c (cancelling r.status) r it.0 slot.0 agrees (calls.each c it.0 it.1) one.here turns.is
      (record { unstarted = refl; unfinished = refl; put_open = λ h. absurd (true≢false h) }) refl (unopened ds d c one.unopened) (stands.keeps.each c slot.0 slot.1) in
      subst (λ s. Keeps now can_act rule set (d ∷ ds) c (runner_of (d ∷ ds) c) s) same
      (at r.run agrees.run runs ran slot.0 over calm))
    where
      at : (run : Option ℕ) → runner_of ds c ≡ run → (b : Bool) → b ≡ is_some run → (slot : Option H)
          → is_over (deed_by seat (Cancel c) (cancel_effect set ds c (call_at ds c)) ∷ ds) c ≡ true
          → Keeps now can_act rule set (deed_by seat (Cancel c) (cancel_effect set ds c (call_at ds c)) ∷ ds) c (runner_of ds c) slot
          → Keeps now can_act rule set (deed_by seat (Cancel c) (cancel_effect set ds c (call_at ds c)) ∷ ds) c (runner_of ds c) (if b then slot else None)
      at None is true ran slot over calm = absurd (true≢false ran)
      at None is false ran slot over calm =
          subst (λ o. Keeps now can_act rule set (deed_by seat (Cancel c) (cancel_effect set ds c (call_at ds c)) ∷ ds) c o None) (sym is) over
      at (Some s) is true ran slot over calm = calm
      at (Some s) is false ran slot over calm = absurd (false≢true ran)

  pub table_cancelled : (recorded after : Recorded) (seat c : ℕ) (states later : CallStates) (handlers left : List (Option H)) (items items' : List Item) (runs : Bool) (capacity capacity' : ℕ)
      → IsTable now can_act rule set recorded states handlers items capacity → IsCall set recorded.entries c → is_cancelled (history set recorded.entries) c ≡ false
      → ((r : CallState) → slice_get states.calls.items c ≡ Some r → runs ≡ is_some r.run) → CancelsCall set.role c runs states later handlers left items items'
      → capacity' ≡ capacity → after.entries ≡ adding recorded.entries seat (Cancel c) → after.spare + 1 ≡ recorded.spare
      → IsTable now can_act rule set after later left items' capacity'
  table_cancelled recorded after seat c states later handlers left items items' runs capacity capacity' is call uncut ran cancels same adds spent =
      let ds : List Deed = history set recorded.entries in
      let row = get_some states.calls.items c (omega (arith, call.below, is.stands.agrees.calls.many)) in
      let there : c < length states.calls.items = slice_get_within states.calls.items c row.0 row.1 in
      let it = get_some later.calls.items c (omega (arith, there, (cancels.change 0).many)) in
      let turns = (cancels.change 0).here row.0 it.0 row.1 it.1 in
      let agrees = is.stands.agrees.calls.each c row.0 row.1 in
      let fresh : row.0.cancelled ≡ false = sym agrees.cancelled ∙ uncut in
      let counts = counts_one _ states.calls.items later.calls.items c row.0 it.0 (cancels.change 0) row.1 it.1 in
      let was : one_if (not row.0.cancelled) ≡ 1 = ap (λ b. one_if (not b)) fresh in
      let cut : one_if (not it.0.cancelled) ≡ 0 = ap (λ b. one_if (not b)) turns.is.cancelled in
      let fewer : uncancelled later.calls.items + 1 ≡ uncancelled states.calls.items = omega (arith, counts.going, was, cut) in
      let busy : running later.calls.items ≡ running states.calls.items = omega (arith, counts.busy, ap (λ o. one_if (is_some o)) turns.is.run) in
      let few : length items' ≤ length items + 2 =
      omega (arith, ap length (cancels.says row.0 row.1), length-append items (cancel_items set.role c row.0.name (is_some row.0.status) (is_some row.0.run)), two_items set.role c row.0.name (is_some row.0.status) (is_some row.0.run)) in
      let did : CancelDid set seat c (cancel_answer _ _) recorded.entries after.entries = record { adds = rw uncut adds; answer = refl } in
      let laws : KeepsLegal H (Unit {0}) = keeps_legal in
      subst (λ n. IsTable now can_act rule set after later left items' n) (sym same)
      (table_after now can_act rule set recorded after seat (Cancel c) later left items' capacity adds
      (laws.cancel rule set seat c _ recorded.entries after.entries is.legal call did)
      (stands_cancelled ds seat c states later handlers left items items' row.0 runs is.stands row.1 (ran row.0 row.1) cancels)
      (record {
        room = subst (λ b. HasRoom later.calls.items (length items') b (is_some later.halted) after.spare capacity) (sym cancels.input)
            (subst (λ o. HasRoom later.calls.items (length items') states.input_ended (is_some o) after.spare capacity) (sym cancels.halt)
            (record { items_fit = omega (arith, is.room.room.items_fit, fewer, busy, few); entries_fit = omega (arith, is.room.room.entries_fit, fewer, busy, few, spent) }));
        places = subst (λ b. HasPlaces later.calls.items b) (sym cancels.input)
            (places_cut c states.calls.items later.calls.items states.input_ended row.0 row.1 (cancels.change 0) is.room.places);
        few = omega (arith, is.room.few, (cancels.change 0).many);
      }))

-- a call that wasn't cancelled has the room for its Cancel
pub cancel_room : (states : CallStates) (items : List Item) (c : ℕ) (r : CallState) (spare capacity : ℕ) → HasAllRoom states items spare capacity
    → slice_get states.calls.items c ≡ Some r → r.cancelled ≡ false → (length items + 2 ≤ capacity) × (1 ≤ spare)
cancel_room states items c r spare capacity room is fresh =
    let one : 1 ≤ uncancelled states.calls.items = count-has (λ y. not y.cancelled) states.calls.items c r is (ap not fresh) in
    (omega (arith, room.room.items_fit, one), omega (arith, room.room.entries_fit, one))

pub cut_room : (ds : List Deed) (states : CallStates) (items : List Item) (c spare capacity : ℕ) → AgreesOnCalls ds states.calls.items → HasAllRoom states items spare capacity
    → c < call_count ds → is_cancelled ds c ≡ false → (length items + 2 ≤ capacity) × (1 ≤ spare)
cut_room ds states items c spare capacity agrees room below uncut =
    let row = get_some states.calls.items c (omega (arith, below, agrees.many)) in
    cancel_room states items c row.0 spare capacity room row.1 (sym (agrees.each c row.0 row.1).cancelled ∙ uncut)
