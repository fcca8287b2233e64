-- A client's table over arrivals that end a call.
use Rattle.std.proofs.Common.{◌≡◌, ℕ, ◌+◌, ◌<◌, ◌≤◌, true, false, List, ◌++◌, length, slice_get, Option, Some, None, refl, sym, ◌∙◌, subst, arith, eq-eqb, ne_eqb}
use Rattle.std.proofs.lemmas.Option.{slice_get_within}
use Rattle.std.specs.VecDeque.{deque_capacity}
use Rattle.rpc_ids.specs.declared.status.Status.{Status}
use Rattle.rpc_ids.specs.declared.status.Status.TheVariants.{InvalidArgument}
use Rattle.rpc_packet.specs.declared.owned.Packet.{Packet}
use Rattle.rpc_handlers.specs.declared.event.Event.{Event}
use Rattle.rpc_handlers.specs.declared.event.Memo.{Memo}
use Rattle.rpc_handlers.specs.HandlerRule.{HandlerRule}
use Rattle.rpc_journal.specs.declared.table.call_state.CallState.{CallState}
use Rattle.rpc_journal.specs.declared.table.call_states.CallStates.{CallStates}
use Rattle.rpc_journal.specs.declared.entry.EntryKind.TheVariants.{Arrive}
use Rattle.rpc_journal.specs.declared.item.Item.{Item}
use Rattle.rpc_journal.specs.declared.setting.Setting.{Setting}
use Rattle.rpc_journal.specs.ClientTable.{refuses_stream}
use Rattle.rpc_journal.specs.Conditions.{IsInputOpen}
use Rattle.rpc_journal.specs.History.{history, adding, deed_by}
use Rattle.rpc_journal.specs.Kinds.{or_else}
use Rattle.rpc_journal.specs.Recorded.{Recorded}
use Rattle.rpc_journal.specs.Rows.{both_effects, closed_row, ends_call, puts_event}
use Rattle.rpc_journal.specs.table.Touch.{Touch, answering, ending}
use Rattle.rpc_journal.specs.table.Turns.{Turns}
use Rattle.rpc_journal.proofs.table.DeedLemmas.{answer_touches, end_touches, refuse_touches}
use Rattle.rpc_journal.proofs.PlaceLemmas.{get_some}
use Rattle.rpc_journal.proofs.VerdictLemmas.{history_length}
use Rattle.rpc_calls.specs.Arrivals.{CanTake, IsLiveCall}
use Rattle.rpc_calls.specs.Places.{ChangesAt}
use Rattle.rpc_calls.specs.Room.{uncancelled, running, items_owed, HasPlaces}
use Rattle.rpc_calls.specs.TableHolds.{IsTable}
use Rattle.rpc_calls.proofs.ArriveSteps.{Arrives, arrives_silent, arrives_touched, live_status}
use Rattle.rpc_calls.proofs.OneStep.{TouchesOne, places_one}

end_one : (seat c : ℕ) (p : Packet) (s : Status) → TouchesOne (deed_by seat (Arrive p) (ends_call c s)) c (ending s)
end_one seat c p s = record {
  here = end_touches seat c c p s true (eq-eqb c c refl);
  others = λ k apart. end_touches seat c k p s false (ne_eqb c k (λ same. apart (sym same)));
  unopened = refl;
}

refuse_one : (seat c : ℕ) (p : Packet) → TouchesOne (deed_by seat (Arrive p) (refuses_stream p c)) c (ending InvalidArgument)
refuse_one seat c p = record {
  here = refuse_touches seat c c p true (eq-eqb c c refl);
  others = λ k apart. refuse_touches seat c k p false (ne_eqb c k (λ same. apart (sym same)));
  unopened = refl;
}

answer_one : (seat c : ℕ) (p : Packet) (event : Event) (s : Status) → TouchesOne (deed_by seat (Arrive p) (both_effects (puts_event c event) (ends_call c s))) c (answering event s)
answer_one seat c p event s = record {
  here = answer_touches seat c c p event s true (eq-eqb c c refl);
  others = λ k apart. answer_touches seat c k p event s false (ne_eqb c k (λ same. apart (sym same)));
  unopened = refl;
}

-- a call that ends needs no place for a further event
places_ended : (at c : ℕ) (t : Touch) (s : Status) (states later : CallStates) (r : CallState) → t.ends ≡ Some s → slice_get states.calls.items c ≡ Some r
    → ChangesAt c (Turns at t) states.calls.items later.calls.items → later.input_ended ≡ states.input_ended
    → HasPlaces states.calls.items states.input_ended → HasPlaces later.calls.items later.input_ended
places_ended at c t s states later r ends there changes input free =
    subst (λ b. HasPlaces later.calls.items b) (sym input)
    (places_one at t states.calls.items later.calls.items c states.input_ended changes (slice_get_within states.calls.items c r there)
    (λ q x turn unended. absurd (ended t.ends q.status ends (sym turn.is.status ∙ unended))) free)
  where
    ended : (o p : Option Status) → o ≡ Some s → or_else o p ≡ None → ⊥
    ended None p is none = absurd cc
    ended (Some z) p is none = absurd cc

module _ {H : Type 0} (now : H → Memo) (can_act : H → Type 0) (rule : HandlerRule) (set : Setting) where
  -- a live call has a place for one more event
  pub live_room : (recorded : Recorded) (states : CallStates) (handlers : List (Option H)) (items : List Item) (capacity seat c : ℕ) (r : CallState)
      → IsTable now can_act rule set recorded states handlers items capacity → IsInputOpen set recorded.entries seat → IsLiveCall (history set recorded.entries) c
      → slice_get states.calls.items c ≡ Some r → length r.waiting.items < deque_capacity r.waiting
  live_room recorded states handlers items capacity seat c r is input live there =
      is.room.places.free c r there (live_status now can_act rule set (history set recorded.entries) states handlers items c r is.stands live there) (is.stands.agrees.input ∙ input.not_ended)

  pub arrives_ended : (recorded after : Recorded) (seat c at : ℕ) (p : Packet) (s : Status) (states later : CallStates) (handlers : List (Option H)) (items items' : List Item) (capacity capacity' spare : ℕ)
      → IsTable now can_act rule set recorded states handlers items capacity → CanTake set recorded.entries seat p (closed_row c (ends_call c s))
      → IsLiveCall (history set recorded.entries) c → at ≡ length recorded.entries
      → ChangesAt c (Turns at (ending s)) states.calls.items later.calls.items
      → later.unflushed ≡ states.unflushed → later.input_ended ≡ states.input_ended → later.halted ≡ states.halted → later.newest ≡ states.newest → later.closed.items ≡ states.closed.items → items' ≡ items
      → after.entries ≡ adding recorded.entries seat (Arrive p) → after.spare + 1 ≡ spare
      → length items + items_owed states.calls.items + 0 ≤ capacity'
      → length items + items_owed states.calls.items + 0 + (uncancelled states.calls.items + running states.calls.items + 2) + 1 ≤ spare
      → Arrives now can_act rule set recorded after seat p (closed_row c (ends_call c s)).answer later handlers items' capacity'
  arrives_ended recorded after seat c at p s states later handlers items items' capacity capacity' spare is can live place changes unflushed input halt newest chans same adds spent places records =
      let row = get_some states.calls.items c (omega (arith, live.below, is.stands.agrees.calls.many)) in
      let unended = live_status now can_act rule set (history set recorded.entries) states handlers items c row.0 is.stands live row.1 in
      let turned = subst (λ n. ChangesAt c (Turns n (ending s)) states.calls.items later.calls.items) (place ∙ sym (history_length set recorded.entries)) changes in
      arrives_silent now can_act rule set recorded after seat c p (ending s) (closed_row c (ends_call c s)) states later handlers items items' row.0 capacity capacity' spare is can
      (end_one seat c p s) refl row.1 (record { unstarted = refl; unfinished = refl; put_open = λ h. unended }) refl turned unflushed input halt newest chans
      (places_ended at c (ending s) s states later row.0 refl row.1 changes input is.room.places) same adds spent places records

  pub arrives_refused : (recorded after : Recorded) (seat c at : ℕ) (p : Packet) (states later : CallStates) (handlers : List (Option H)) (items items' : List Item) (capacity capacity' spare : ℕ)
      → IsTable now can_act rule set recorded states handlers items capacity → CanTake set recorded.entries seat p (closed_row c (refuses_stream p c))
      → IsLiveCall (history set recorded.entries) c → at ≡ length recorded.entries
      → ChangesAt c (Turns at (ending InvalidArgument)) states.calls.items later.calls.items
      → later.unflushed ≡ length items' → later.input_ended ≡ states.input_ended → later.halted ≡ states.halted → later.newest ≡ states.newest → later.closed.items ≡ states.closed.items → items' ≡ items ++ (refuses_stream p c).says
      → after.entries ≡ adding recorded.entries seat (Arrive p) → after.spare + 1 ≡ spare
      → length items + items_owed states.calls.items + 1 ≤ capacity'
      → length items + items_owed states.calls.items + 1 + (uncancelled states.calls.items + running states.calls.items + 2) + 1 ≤ spare
      → Arrives now can_act rule set recorded after seat p (closed_row c (refuses_stream p c)).answer later handlers items' capacity'
  arrives_refused recorded after seat c at p states later handlers items items' capacity capacity' spare is can live place changes counted input halt newest chans says adds spent places records =
      let row = get_some states.calls.items c (omega (arith, live.below, is.stands.agrees.calls.many)) in
      let unended = live_status now can_act rule set (history set recorded.entries) states handlers items c row.0 is.stands live row.1 in
      let turned = subst (λ n. ChangesAt c (Turns n (ending InvalidArgument)) states.calls.items later.calls.items) (place ∙ sym (history_length set recorded.entries)) changes in
      arrives_touched now can_act rule set recorded after seat c 1 p (ending InvalidArgument) (closed_row c (refuses_stream p c)) states later handlers items items' row.0 capacity capacity' spare is can
      (refuse_one seat c p) refl row.1 (record { unstarted = refl; unfinished = refl; put_open = λ h. unended }) refl turned counted input halt newest chans
      (places_ended at c (ending InvalidArgument) InvalidArgument states later row.0 refl row.1 changes input is.room.places) says adds spent places records

  pub arrives_answered : (recorded after : Recorded) (seat c at : ℕ) (p : Packet) (event : Event) (s : Status) (states later : CallStates) (handlers : List (Option H)) (items items' : List Item) (capacity capacity' spare : ℕ)
      → IsTable now can_act rule set recorded states handlers items capacity → CanTake set recorded.entries seat p (closed_row c (both_effects (puts_event c event) (ends_call c s)))
      → IsLiveCall (history set recorded.entries) c → at ≡ length recorded.entries
      → ChangesAt c (Turns at (answering event s)) states.calls.items later.calls.items
      → later.unflushed ≡ states.unflushed → later.input_ended ≡ states.input_ended → later.halted ≡ states.halted → later.newest ≡ states.newest → later.closed.items ≡ states.closed.items → items' ≡ items
      → after.entries ≡ adding recorded.entries seat (Arrive p) → after.spare + 1 ≡ spare
      → length items + items_owed states.calls.items + 0 ≤ capacity'
      → length items + items_owed states.calls.items + 0 + (uncancelled states.calls.items + running states.calls.items + 2) + 1 ≤ spare
      → Arrives now can_act rule set recorded after seat p (closed_row c (both_effects (puts_event c event) (ends_call c s))).answer later handlers items' capacity'
  arrives_answered recorded after seat c at p event s states later handlers items items' capacity capacity' spare is can live place changes unflushed input halt newest chans same adds spent places records =
      let row = get_some states.calls.items c (omega (arith, live.below, is.stands.agrees.calls.many)) in
      let unended = live_status now can_act rule set (history set recorded.entries) states handlers items c row.0 is.stands live row.1 in
      let turned = subst (λ n. ChangesAt c (Turns n (answering event s)) states.calls.items later.calls.items) (place ∙ sym (history_length set recorded.entries)) changes in
      arrives_silent now can_act rule set recorded after seat c p (answering event s) (closed_row c (both_effects (puts_event c event) (ends_call c s))) states later handlers items items' row.0 capacity capacity' spare is can
      (answer_one seat c p event s) refl row.1 (record { unstarted = refl; unfinished = refl; put_open = λ h. unended }) refl turned unflushed input halt newest chans
      (places_ended at c (answering event s) s states later row.0 refl row.1 changes input is.room.places) same adds spent places records
