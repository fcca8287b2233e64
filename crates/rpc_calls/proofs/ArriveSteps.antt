-- A table over arrivals.
use Rattle.std.proofs.Common.{◌≡◌, ◌≢◌, ◌⊎◌, inl, inr, ℕ, ◌+◌, ◌<◌, ◌≤◌, ◌^◌, true, false, List, [], ◌∷◌, ◌++◌, length, slice_get, Option, Some, None, Ok, refl, ap, sym, ◌∙◌, subst, arith, eq-eqb, ne_eqb, length-append}
use Rattle.std.proofs.lemmas.Bool.{false≢true}
use Rattle.std.proofs.lemmas.List.{append-nil}
use Rattle.std.specs.VecDeque.{deque_capacity}
use Rattle.rpc_packet.specs.declared.packet_type.PacketType.{PacketType}
use Rattle.rpc_ids.specs.declared.status.Status.{Status}
use Rattle.rpc_packet.specs.declared.owned.Packet.{Packet}
use Rattle.rpc_handlers.specs.declared.event.Event.{Event}
use Rattle.rpc_handlers.specs.declared.event.Memo.{Memo}
use Rattle.rpc_handlers.specs.HandlerRule.{HandlerRule}
use Rattle.rpc_journal.specs.declared.answers.Arrived.{Arrived}
use Rattle.rpc_journal.specs.declared.table.call_state.CallState.{CallState}
use Rattle.rpc_journal.specs.declared.table.call_states.CallStates.{CallStates}
use Rattle.rpc_journal.specs.declared.entry.EntryKind.TheVariants.{Arrive}
use Rattle.rpc_journal.specs.declared.item.Item.{Item}
use Rattle.rpc_journal.specs.declared.setting.Setting.{Setting}
use Rattle.rpc_journal.specs.ChangeLaws.{KeepsLegal}
use Rattle.rpc_journal.specs.Changes.{ArriveDid}
use Rattle.rpc_journal.specs.Conditions.{IsInputOpen}
use Rattle.rpc_journal.specs.Effect.{Effect, Deed}
use Rattle.rpc_journal.specs.History.{history, adding, deed_by}
use Rattle.rpc_journal.specs.Lawful.{IsLegal}
use Rattle.rpc_journal.specs.Recorded.{Recorded}
use Rattle.rpc_journal.specs.Rows.{Row, no_effect, ends_and_clears, puts_event, replied_row, dropped_row, closed_row, queued_row}
use Rattle.rpc_journal.specs.table.Touch.{Touch, Touches, untouched, closing, putting}
use Rattle.rpc_journal.specs.Queues.{put_at}
use Rattle.rpc_journal.proofs.PlaceLemmas.{get_some}
use Rattle.rpc_journal.proofs.table.StepLemmas.{same_or_not}
use Rattle.rpc_journal.proofs.table.TableLemmas.{ended_is}
use Rattle.rpc_journal.proofs.VerdictLemmas.{history_length}
use Rattle.std.proofs.lemmas.Option.{slice_get_within}
use Rattle.rpc_journal.proofs.table.DeedLemmas.{close_touches, put_touches}
use Rattle.rpc_journal.proofs.LegalLemmas.{keeps_legal}
use Rattle.rpc_calls.specs.Arrivals.{CanTake, IsLiveCall, Took}
use Rattle.rpc_calls.specs.Places.{ChangesAt}
use Rattle.rpc_calls.specs.Room.{uncancelled, running, items_owed, HasPlaces}
use Rattle.rpc_calls.specs.TableHolds.{StandsFor, HasAllRoom, IsTable}
use Rattle.rpc_journal.specs.table.Turns.{Turns}
use Rattle.rpc_calls.proofs.CalmSteps.{none_of, table_after}
use Rattle.rpc_calls.proofs.CallSteps.{IsCallEntry, stands_none}
use Rattle.rpc_calls.proofs.FlushSteps.{waits_one}
use Rattle.rpc_calls.proofs.OneStep.{TouchesOne, places_one}
use Rattle.rpc_calls.proofs.StepLemmas.{IsCalm}
use Rattle.rpc_calls.proofs.TouchTables.{room_grown, table_touched}

pub arrive_entry : (seat : ℕ) (p : Packet) (e : Effect) → IsCallEntry (deed_by seat (Arrive p) e)
arrive_entry seat p e = record { flushes_none = refl; goes_on = refl; unhalted = refl; unclosed = refl }

-- nothing
drop_touches : (seat : ℕ) (p : Packet) (c : ℕ) → Touches (deed_by seat (Arrive p) no_effect) c untouched
drop_touches seat p c = record { starts = refl; finishes = refl; cancels = refl; completes = refl; ends = refl; clears = refl; puts = refl; alone = λ h. absurd (false≢true h) }

-- a reply of no call
reply_touches : (seat : ℕ) (ptype : PacketType) (p : Packet) (s : Status) (c : ℕ) → Touches (deed_by seat (Arrive p) (replied_row ptype p s).does) c untouched
reply_touches seat ptype p s c = record { starts = refl; finishes = refl; cancels = refl; completes = refl; ends = refl; clears = refl; puts = refl; alone = λ h. absurd (false≢true h) }

close_one : (seat c : ℕ) (p : Packet) (s : Status) → TouchesOne (deed_by seat (Arrive p) (ends_and_clears c s)) c (closing s)
close_one seat c p s = record {
  here = close_touches seat c c p s true (eq-eqb c c refl);
  others = λ k apart. close_touches seat c k p s false (ne_eqb c k (λ same. apart (sym same)));
  unopened = refl;
}

put_one : (seat c : ℕ) (p : Packet) (event : Event) → TouchesOne (deed_by seat (Arrive p) (puts_event c event)) c (putting event)
put_one seat c p event = record {
  here = put_touches seat c c p event true (eq-eqb c c refl);
  others = λ k apart. put_touches seat c k p event false (ne_eqb c k (λ same. apart (sym same)));
  unopened = refl;
}

module _ {H : Type 0} (now : H → Memo) (can_act : H → Type 0) (rule : HandlerRule) (set : Setting) where
  pub record Arrives (recorded after : Recorded) (seat : ℕ) (p : Packet) (answer : Arrived) (later : CallStates) (handlers : List (Option H)) (items' : List Item) (capacity : ℕ) : Type 0 where
    pub table : IsTable now can_act rule set after later handlers items' capacity
    pub took : Took rule set seat p answer recorded.entries after.entries

  it_took : (recorded after : Recorded) (seat : ℕ) (p : Packet) (row : Row) → IsLegal rule set recorded.entries → CanTake set recorded.entries seat p row
      → after.entries ≡ adding recorded.entries seat (Arrive p) → Took rule set seat p row.answer recorded.entries after.entries
  it_took recorded after seat p row legal can adds =
      let did : ArriveDid set seat p (Ok row.answer) recorded.entries after.entries =
      record { unrefused = can.unrefused; answer = ap (λ (r : Row). r.answer) (sym can.is); adds = adds; cause = tt; kept = tt } in
      let laws : KeepsLegal H (Unit {0}) = keeps_legal in
      record { did = did; legal = laws.arrive rule set seat p (Ok row.answer) recorded.entries after.entries legal can.input can.heard did }

  -- the table after an arrival, where its parts stand for the history with it
  pub table_arrived : (recorded after : Recorded) (seat : ℕ) (p : Packet) (row : Row) (later : CallStates) (handlers : List (Option H)) (items' : List Item) (capacity : ℕ)
      → IsLegal rule set recorded.entries → CanTake set recorded.entries seat p row → after.entries ≡ adding recorded.entries seat (Arrive p)
      → StandsFor now can_act rule set (deed_by seat (Arrive p) row.does ∷ history set recorded.entries) later handlers items'
      → HasAllRoom later items' after.spare capacity
      → Arrives recorded after seat p row.answer later handlers items' capacity
  table_arrived recorded after seat p row later handlers items' capacity legal can adds stands room =
      let took : Took rule set seat p row.answer recorded.entries after.entries = it_took recorded after seat p row legal can adds in
      record {
        table = table_after now can_act rule set recorded after seat (Arrive p) later handlers items' capacity adds took.legal
            (subst (λ (r : Row). StandsFor now can_act rule set (deed_by seat (Arrive p) r.does ∷ history set recorded.entries) later handlers items') (sym can.is) stands) room;
        took = took;
      }

  pub arrives_dropped : (recorded after : Recorded) (seat : ℕ) (p : Packet) (states : CallStates) (handlers : List (Option H)) (items items' : List Item) (capacity capacity' spare : ℕ)
      → IsTable now can_act rule set recorded states handlers items capacity → CanTake set recorded.entries seat p dropped_row → items' ≡ items
      → after.entries ≡ adding recorded.entries seat (Arrive p) → after.spare + 1 ≡ spare
      → length items + items_owed states.calls.items + 0 ≤ capacity'
      → length items + items_owed states.calls.items + 0 + (uncancelled states.calls.items + running states.calls.items + 2) + 1 ≤ spare
      → Arrives recorded after seat p dropped_row.answer states handlers items' capacity'
  arrives_dropped recorded after seat p states handlers items items' capacity capacity' spare is can same adds spent places records =
      table_arrived recorded after seat p dropped_row states handlers items' capacity' is.legal can adds
      (stands_none now can_act rule set (history set recorded.entries) (deed_by seat (Arrive p) no_effect) states states handlers items items' is.stands
      (arrive_entry seat p no_effect) (drop_touches seat p) refl refl
      (record { says = same ∙ sym (append-nil items); unflushed = counted; input = refl; halt = refl; closed = refl }) refl (λ k. refl))
      (room_grown states states items items' 0 after.spare capacity' refl refl (omega (arith, ap length same)) is.room.places is.room.few places
      (subst (λ n. length items + items_owed states.calls.items + 0 + (uncancelled states.calls.items + running states.calls.items + 2) + 1 ≤ n) (sym spent) records))
    where
      counted : states.unflushed ≡ length items'
      counted = sym (waits_one now can_act rule set recorded states handlers items capacity is) ∙ ap length (sym same)

  pub arrives_replied : (recorded after : Recorded) (seat : ℕ) (ptype : PacketType) (p : Packet) (s : Status) (states later : CallStates) (handlers : List (Option H)) (items items' : List Item) (capacity capacity' spare : ℕ)
      → IsTable now can_act rule set recorded states handlers items capacity → CanTake set recorded.entries seat p (replied_row ptype p s)
      → items' ≡ items ++ (replied_row ptype p s).does.says → later.calls.items ≡ states.calls.items → later.unflushed ≡ length items'
      → later.input_ended ≡ states.input_ended → later.halted ≡ states.halted → later.newest ≡ states.newest → later.closed.items ≡ states.closed.items
      → after.entries ≡ adding recorded.entries seat (Arrive p) → after.spare + 1 ≡ spare
      → length items + items_owed states.calls.items + 1 ≤ capacity'
      → length items + items_owed states.calls.items + 1 + (uncancelled states.calls.items + running states.calls.items + 2) + 1 ≤ spare
      → Arrives recorded after seat p (replied_row ptype p s).answer later handlers items' capacity'
  arrives_replied recorded after seat ptype p s states later handlers items items' capacity capacity' spare is can says same counted input halt newest chans adds spent places records =
      table_arrived recorded after seat p (replied_row ptype p s) later handlers items' capacity' is.legal can adds
      (stands_none now can_act rule set (history set recorded.entries) (deed_by seat (Arrive p) (replied_row ptype p s).does) states later handlers items items' is.stands
      (arrive_entry seat p (replied_row ptype p s).does) (reply_touches seat ptype p s) refl same
      (record { says = says; unflushed = counted; input = input; halt = halt; closed = chans }) newest (λ k. refl))
      (room_grown states later items items' 1 after.spare capacity' (ap uncancelled same) (ap running same)
      (ap length says ∙ length-append items (replied_row ptype p s).does.says)
      (subst (λ b. HasPlaces later.calls.items b) (sym input) (subst (λ cs. HasPlaces cs states.input_ended) (sym same) is.room.places))
      (subst (λ cs. length cs < 2 ^ 32) (sym same) is.room.few) places
      (subst (λ n. length items + items_owed states.calls.items + 1 + (uncancelled states.calls.items + running states.calls.items + 2) + 1 ≤ n) (sym spent) records))

  -- the live call c is touched so, and n items are said
  pub arrives_touched : (recorded after : Recorded) (seat c n : ℕ) (p : Packet) (t : Touch) (row : Row) (states later : CallStates) (handlers : List (Option H)) (items items' : List Item) (r : CallState) (capacity capacity' spare : ℕ)
      → IsTable now can_act rule set recorded states handlers items capacity → CanTake set recorded.entries seat p row
      → TouchesOne (deed_by seat (Arrive p) row.does) c t → length row.does.says ≡ n → slice_get states.calls.items c ≡ Some r → IsCalm t r
      → t.cancels ≡ false → ChangesAt c (Turns (length (history set recorded.entries)) t) states.calls.items later.calls.items
      → later.unflushed ≡ length items' → later.input_ended ≡ states.input_ended → later.halted ≡ states.halted → later.newest ≡ states.newest → later.closed.items ≡ states.closed.items
      → HasPlaces later.calls.items later.input_ended → items' ≡ items ++ row.does.says
      → after.entries ≡ adding recorded.entries seat (Arrive p) → after.spare + 1 ≡ spare
      → length items + items_owed states.calls.items + n ≤ capacity'
      → length items + items_owed states.calls.items + n + (uncancelled states.calls.items + running states.calls.items + 2) + 1 ≤ spare
      → Arrives recorded after seat p row.answer later handlers items' capacity'
  arrives_touched recorded after seat c n p t row states later handlers items items' r capacity capacity' spare is can one many there calm uncut changes unflushed input halt newest chans free says adds spent places records =
      let took : Took rule set seat p row.answer recorded.entries after.entries = it_took recorded after seat p row is.legal can adds in
      record {
        table = table_touched now can_act rule set recorded after seat (Arrive p) row.does c n t states later handlers items items' r capacity capacity' spare is
            (ap (λ (q : Row). q.does) can.is) took.legal (arrive_entry seat p row.does) (λ k. refl) one many there calm uncut changes unflushed input halt newest chans free says adds spent places records;
        took = took;
      }

  -- and nothing is said
  pub arrives_silent : (recorded after : Recorded) (seat c : ℕ) (p : Packet) (t : Touch) (row : Row) (states later : CallStates) (handlers : List (Option H)) (items items' : List Item) (r : CallState) (capacity capacity' spare : ℕ)
      → IsTable now can_act rule set recorded states handlers items capacity → CanTake set recorded.entries seat p row
      → TouchesOne (deed_by seat (Arrive p) row.does) c t → row.does.says ≡ [] → slice_get states.calls.items c ≡ Some r → IsCalm t r
      → t.cancels ≡ false → ChangesAt c (Turns (length (history set recorded.entries)) t) states.calls.items later.calls.items
      → later.unflushed ≡ states.unflushed → later.input_ended ≡ states.input_ended → later.halted ≡ states.halted → later.newest ≡ states.newest → later.closed.items ≡ states.closed.items
      → HasPlaces later.calls.items later.input_ended → items' ≡ items
      → after.entries ≡ adding recorded.entries seat (Arrive p) → after.spare + 1 ≡ spare
      → length items + items_owed states.calls.items + 0 ≤ capacity'
      → length items + items_owed states.calls.items + 0 + (uncancelled states.calls.items + running states.calls.items + 2) + 1 ≤ spare
      → Arrives recorded after seat p row.answer later handlers items' capacity'
  arrives_silent recorded after seat c p t row states later handlers items items' r capacity capacity' spare is can one silent there calm uncut changes unflushed input halt newest chans free same adds spent places records =
      arrives_touched recorded after seat c 0 p t row states later handlers items items' r capacity capacity' spare is can one (ap length silent) there calm uncut changes
      (unflushed ∙ sym (waits_one now can_act rule set recorded states handlers items capacity is) ∙ ap length (sym same)) input halt newest chans free
      (same ∙ sym (append-nil items) ∙ ap (λ xs. items ++ xs) (sym silent)) adds spent places records

-- the places after a close
pub places_closed : (at c : ℕ) (s : Status) (states later : CallStates) (r : CallState) → slice_get states.calls.items c ≡ Some r
    → ChangesAt c (Turns at (closing s)) states.calls.items later.calls.items → later.input_ended ≡ states.input_ended
    → HasPlaces states.calls.items states.input_ended → HasPlaces later.calls.items later.input_ended
places_closed at c s states later r there changes input free =
    subst (λ b. HasPlaces later.calls.items b) (sym input)
    (places_one at (closing s) states.calls.items later.calls.items c states.input_ended changes (slice_get_within states.calls.items c r there)
    (λ q x turn unended. absurd (ended (sym turn.is.status ∙ unended))) free)
  where
    ended : Some s ≡ None → ⊥
    ended h = absurd cc

-- the places after an event was put into one of two free places
pub places_put : (at c : ℕ) (event : Event) (states later : CallStates) (r : CallState) → slice_get states.calls.items c ≡ Some r
    → length r.waiting.items + 2 ≤ deque_capacity r.waiting
    → ChangesAt c (Turns at (putting event)) states.calls.items later.calls.items → later.input_ended ≡ states.input_ended
    → HasPlaces states.calls.items states.input_ended → HasPlaces later.calls.items later.input_ended
places_put at c event states later r there two changes input free = record {
  one = λ k y is. one k y is (same_or_not k c);
  free = λ k y is unended going. case k y is unended going (same_or_not k c);
}
  where
    one : (k : ℕ) (y : CallState) → slice_get later.calls.items k ≡ Some y → (k ≡ c) ⊎ (k ≢ c) → 0 < deque_capacity y.waiting
    one k y is (inl same) =
        let turns = changes.here r y there (subst (λ n. slice_get later.calls.items n ≡ Some y) same is) in
        omega (arith, two, turns.capacity)
    one k y is (inr apart) = free.one k y (sym (changes.others k apart) ∙ is)

    case : (k : ℕ) (y : CallState) → slice_get later.calls.items k ≡ Some y → y.status ≡ None → later.input_ended ≡ false → (k ≡ c) ⊎ (k ≢ c) → length y.waiting.items < deque_capacity y.waiting
    case k y is unended going (inl same) =
        let turns = changes.here r y there (subst (λ n. slice_get later.calls.items n ≡ Some y) same is) in
        omega (arith, two, turns.capacity, ap length turns.is.waiting, length-append r.waiting.items (put_at at (event ∷ [])))
    case k y is unended going (inr apart) = free.free k y (sym (changes.others k apart) ∙ is) unended (sym input ∙ going)

module _ {H : Type 0} (now : H → Memo) (can_act : H → Type 0) (rule : HandlerRule) (set : Setting) where
  -- a table with more room
  pub table_roomier : (recorded roomier : Recorded) (states : CallStates) (handlers : List (Option H)) (items items' : List Item) (capacity capacity' : ℕ)
      → IsTable now can_act rule set recorded states handlers items capacity → roomier.entries ≡ recorded.entries → recorded.spare ≤ roomier.spare
      → items' ≡ items → capacity ≤ capacity' → IsTable now can_act rule set roomier states handlers items' capacity'
  table_roomier recorded roomier states handlers items items' capacity capacity' is entries spare same wide =
      subst (λ xs. IsTable now can_act rule set roomier states handlers xs capacity') (sym same)
      (record {
        legal = subst (IsLegal rule set) (sym entries) is.legal;
        stands = subst (λ es. StandsFor now can_act rule set (history set es) states handlers items) (sym entries) is.stands;
        room = record {
          room = record { items_fit = omega (arith, is.room.room.items_fit, wide); entries_fit = omega (arith, is.room.room.entries_fit, spare) };
          places = is.room.places;
          few = is.room.few;
        };
      })

  -- a live call has no status, and a place for its end
  pub live_status : (ds : List Deed) (states : CallStates) (handlers : List (Option H)) (items : List Item) (c : ℕ) (r : CallState)
      → StandsFor now can_act rule set ds states handlers items → IsLiveCall ds c → slice_get states.calls.items c ≡ Some r → r.status ≡ None
  live_status ds states handlers items c r stands live is =
      none_of r.status (sym (ended_is ds c r (stands.agrees.calls.each c r is)) ∙ live.live)

  pub live_place : (recorded : Recorded) (states : CallStates) (handlers : List (Option H)) (items : List Item) (capacity seat c : ℕ) (r : CallState)
      → IsTable now can_act rule set recorded states handlers items capacity → IsInputOpen set recorded.entries seat → IsLiveCall (history set recorded.entries) c
      → slice_get states.calls.items c ≡ Some r → 0 < deque_capacity r.waiting
  live_place recorded states handlers items capacity seat c r is input live there =
      omega (arith, is.room.places.free c r there (live_status (history set recorded.entries) states handlers items c r is.stands live there) (is.stands.agrees.input ∙ input.not_ended))

  pub arrives_closed : (recorded after : Recorded) (seat c at : ℕ) (p : Packet) (s : Status) (states later : CallStates) (handlers : List (Option H)) (items items' : List Item) (capacity capacity' spare : ℕ)
      → IsTable now can_act rule set recorded states handlers items capacity → CanTake set recorded.entries seat p (closed_row c (ends_and_clears c s))
      → IsLiveCall (history set recorded.entries) c → at ≡ length recorded.entries
      → ChangesAt c (Turns at (closing s)) states.calls.items later.calls.items
      → later.unflushed ≡ states.unflushed → later.input_ended ≡ states.input_ended → later.halted ≡ states.halted → later.newest ≡ states.newest → later.closed.items ≡ states.closed.items → items' ≡ items
      → after.entries ≡ adding recorded.entries seat (Arrive p) → after.spare + 1 ≡ spare
      → length items + items_owed states.calls.items + 0 ≤ capacity'
      → length items + items_owed states.calls.items + 0 + (uncancelled states.calls.items + running states.calls.items + 2) + 1 ≤ spare
      → Arrives now can_act rule set recorded after seat p (closed_row c (ends_and_clears c s)).answer later handlers items' capacity'
  arrives_closed recorded after seat c at p s states later handlers items items' capacity capacity' spare is can live place changes unflushed input halt newest chans same adds spent places records =
      let row = get_some states.calls.items c (omega (arith, live.below, is.stands.agrees.calls.many)) in
      let unended = live_status (history set recorded.entries) states handlers items c row.0 is.stands live row.1 in
      let turned = subst (λ n. ChangesAt c (Turns n (closing s)) states.calls.items later.calls.items) (place ∙ sym (history_length set recorded.entries)) changes in
      arrives_silent now can_act rule set recorded after seat c p (closing s) (closed_row c (ends_and_clears c s)) states later handlers items items' row.0 capacity capacity' spare is can
      (close_one seat c p s) refl row.1 (record { unstarted = refl; unfinished = refl; put_open = λ h. unended }) refl turned unflushed input halt newest chans
      (places_closed at c s states later row.0 row.1 changes input is.room.places) same adds spent places records

  pub arrives_put : (recorded after : Recorded) (seat c at : ℕ) (p : Packet) (event : Event) (states later : CallStates) (handlers : List (Option H)) (items items' : List Item) (capacity capacity' spare : ℕ)
      → IsTable now can_act rule set recorded states handlers items capacity → CanTake set recorded.entries seat p (queued_row c event)
      → IsLiveCall (history set recorded.entries) c → at ≡ length recorded.entries
      → ((r : CallState) → slice_get states.calls.items c ≡ Some r → length r.waiting.items + 2 ≤ deque_capacity r.waiting)
      → ChangesAt c (Turns at (putting event)) states.calls.items later.calls.items
      → later.unflushed ≡ states.unflushed → later.input_ended ≡ states.input_ended → later.halted ≡ states.halted → later.newest ≡ states.newest → later.closed.items ≡ states.closed.items → items' ≡ items
      → after.entries ≡ adding recorded.entries seat (Arrive p) → after.spare + 1 ≡ spare
      → length items + items_owed states.calls.items + 0 ≤ capacity'
      → length items + items_owed states.calls.items + 0 + (uncancelled states.calls.items + running states.calls.items + 2) + 1 ≤ spare
      → Arrives now can_act rule set recorded after seat p (queued_row c event).answer later handlers items' capacity'
  arrives_put recorded after seat c at p event states later handlers items items' capacity capacity' spare is can live place two changes unflushed input halt newest chans same adds spent places records =
      let row = get_some states.calls.items c (omega (arith, live.below, is.stands.agrees.calls.many)) in
      let unended = live_status (history set recorded.entries) states handlers items c row.0 is.stands live row.1 in
      let turned = subst (λ n. ChangesAt c (Turns n (putting event)) states.calls.items later.calls.items) (place ∙ sym (history_length set recorded.entries)) changes in
      arrives_silent now can_act rule set recorded after seat c p (putting event) (queued_row c event) states later handlers items items' row.0 capacity capacity' spare is can
      (put_one seat c p event) refl row.1 (record { unstarted = refl; unfinished = refl; put_open = λ h. unended }) refl turned unflushed input halt newest chans
      (places_put at c event states later row.0 row.1 (two row.0 row.1) changes input is.room.places) same adds spent places records
