-- A table over an arrival that opens a call.
use Rattle.std.proofs.Common.{◌≡◌, ◌≢◌, ◌⊎◌, inl, inr, ℕ, ◌+◌, ◌<◌, ◌≤◌, ◌^◌, true, false, not, List, [], ◌∷◌, ◌++◌, length, slice_get, Option, Some, None, is_some, refl, ap, sym, ◌∙◌, subst, arith, eq-eqb, ne_eqb}
use Rattle.std.proofs.lemmas.Bool.{false≢true}
use Rattle.std.proofs.lemmas.List.{append-nil}
use Rattle.std.proofs.lemmas.Option.{slice_get_within}
use Rattle.std.specs.VecDeque.{deque_capacity}
use Rattle.rpc_channel.specs.Rising.{has_id}
use Rattle.rpc_ids.specs.declared.method.MethodRef.{MethodRef}
use Rattle.rpc_ids.specs.declared.status.Status.TheVariants.{Cancelled}
use Rattle.rpc_packet.specs.declared.call_name.CallName.{CallName}
use Rattle.rpc_packet.specs.declared.owned.Packet.{Packet}
use Rattle.rpc_handlers.specs.declared.event.Event.TheVariants.{Request}
use Rattle.rpc_handlers.specs.declared.event.Memo.{Memo}
use Rattle.rpc_handlers.specs.HandlerRule.{HandlerRule}
use Rattle.rpc_journal.specs.declared.table.call_state.CallState.{CallState}
use Rattle.rpc_journal.specs.declared.table.call_states.CallStates.{CallStates}
use Rattle.rpc_journal.specs.declared.entry.EntryKind.TheVariants.{Arrive}
use Rattle.rpc_journal.specs.declared.item.Item.{Item}
use Rattle.rpc_journal.specs.declared.setting.Setting.{Setting}
use Rattle.rpc_journal.specs.Calls.{call_count}
use Rattle.rpc_journal.specs.Effect.{Deed, Effect, Opening}
use Rattle.rpc_journal.specs.History.{history, adding, deed_by}
use Rattle.rpc_journal.specs.Items.{flush_count}
use Rattle.rpc_journal.specs.table.Newest.{IsNamed, IsSameNewest, Numbers}
use Rattle.rpc_journal.specs.Recorded.{Recorded}
use Rattle.rpc_journal.specs.Rows.{both_effects, ends_and_clears, opened_row, opens_served}
use Rattle.rpc_journal.specs.table.Agrees.{AgreesOnCalls}
use Rattle.rpc_journal.specs.table.Touch.{IsServed, closing}
use Rattle.rpc_journal.proofs.table.DeedLemmas.{open_touches, anew_touches}
use Rattle.rpc_journal.proofs.table.NewestLemmas.{newest_opened}
use Rattle.rpc_journal.proofs.PlaceLemmas.{get_some, some_same}
use Rattle.rpc_journal.proofs.table.StepLemmas.{same_or_not}
use Rattle.rpc_journal.proofs.VerdictLemmas.{history_length}
use Rattle.rpc_calls.specs.Arrivals.{CanTake, IsLiveCall}
use Rattle.rpc_calls.specs.Marks.{one_if}
use Rattle.rpc_calls.specs.Outside.{SameRest}
use Rattle.rpc_calls.specs.Places.{ChangesAt}
use Rattle.rpc_calls.specs.Room.{uncancelled, running, items_owed, HasRoom, HasPlaces}
use Rattle.rpc_calls.specs.TableHolds.{StandsFor, IsTable}
use Rattle.rpc_journal.specs.table.Turns.{Turns}
use Rattle.rpc_calls.proofs.ArriveSteps.{Arrives, arrive_entry, table_arrived, live_status, table_roomier}
use Rattle.rpc_calls.proofs.CalmSteps.{TouchesCalmly, untouching}
use Rattle.rpc_calls.proofs.FlushSteps.{waits_one}
use Rattle.rpc_calls.proofs.OneStep.{counts_one, places_one}
use Rattle.rpc_calls.proofs.OpenSteps.{IsOpeningEntry, Opens, stands_opened, room_opened}

-- the call that a packet opens
abbrev pub served_opening : Packet → MethodRef → Opening
served_opening p m = record { name = p.name; method = m; given = None }

arrive_opens : (seat : ℕ) (p : Packet) (e : Effect) → IsOpeningEntry seat (Arrive p) e
arrive_opens seat p e = record { entry = arrive_entry seat p e; unreplaced = λ k. refl }

-- the calls of an opening that touches no other call
open_opens : (ds : List Deed) (seat : ℕ) (p : Packet) (m : MethodRef) (states : List CallState) (x : CallState) → AgreesOnCalls ds states → IsServed (length ds) p m x
    → Opens ds (deed_by seat (Arrive p) (opens_served p m (call_count ds))) (served_opening p m) (Request p.payload ∷ []) states states x
open_opens ds seat p m states x agrees served = record {
  opens = refl;
  newest = open_touches seat (call_count ds) (call_count ds) p m true (eq-eqb (call_count ds) (call_count ds) refl);
  beyond = λ k past. open_touches seat (call_count ds) k p m false (ne_eqb (call_count ds) k (λ same. absurd (omega (arith, same, past))));
  many = refl;
  calm = λ k r y is there.
      let it : r ≡ y = some_same r y (sym is ∙ there) in
      let below : k < call_count ds = omega (arith, slice_get_within states k r is, agrees.many) in
      subst (λ z. TouchesCalmly ds (deed_by seat (Arrive p) (opens_served p m (call_count ds))) k r z) it
      (untouching ds (deed_by seat (Arrive p) (opens_served p m (call_count ds))) k r
      (open_touches seat (call_count ds) k p m false (ne_eqb (call_count ds) k (λ same. absurd (omega (arith, same, below))))));
  incomplete = refl;
  fresh = served;
}

-- and of one that ends the call before it
anew_opens : (ds : List Deed) (seat c : ℕ) (p : Packet) (m : MethodRef) (states mid : List CallState) (x : CallState) → AgreesOnCalls ds states → IsServed (length ds) p m x
    → c < call_count ds → ((r : CallState) → slice_get states c ≡ Some r → r.status ≡ None) → ChangesAt c (Turns (length ds) (closing Cancelled)) states mid
    → Opens ds (deed_by seat (Arrive p) (both_effects (ends_and_clears c Cancelled) (opens_served p m (call_count ds)))) (served_opening p m) (Request p.payload ∷ []) states mid x
anew_opens ds seat c p m states mid x agrees served below live changes = record {
  opens = refl;
  newest = anew_touches seat n c n p m false true (ne_eqb c n (λ same. absurd (omega (arith, same, below)))) (eq-eqb n n refl) (λ h. absurd (false≢true h));
  beyond = λ k past. anew_touches seat n c k p m false false (ne_eqb c k (λ same. absurd (omega (arith, same, below, past)))) (ne_eqb n k (λ same. absurd (omega (arith, same, past)))) (λ h. absurd (false≢true h));
  many = changes.many;
  calm = λ k r y is there. at k r y is there (same_or_not k c);
  incomplete = refl;
  fresh = served;
}
  where
    n : ℕ
    n = call_count ds

    at : (k : ℕ) (r y : CallState) → slice_get states k ≡ Some r → slice_get mid k ≡ Some y → (k ≡ c) ⊎ (k ≢ c)
        → TouchesCalmly ds (deed_by seat (Arrive p) (both_effects (ends_and_clears c Cancelled) (opens_served p m (call_count ds)))) k r y
    at k r y is there (inl same) =
        let was : slice_get states c ≡ Some r = subst (λ j. slice_get states j ≡ Some r) same is in
        let now : slice_get mid c ≡ Some y = subst (λ j. slice_get mid j ≡ Some y) same there in
        subst (λ j. TouchesCalmly ds (deed_by seat (Arrive p) (both_effects (ends_and_clears c Cancelled) (opens_served p m (call_count ds)))) j r y) (sym same)
        (record {
          touch = closing Cancelled;
          does = anew_touches seat (call_count ds) c c p m true false (eq-eqb c c refl) (ne_eqb (call_count ds) c (λ it. absurd (omega (arith, it, below)))) (λ h. refl);
          is = (changes.here r y was now).is;
          calm = record { unstarted = refl; unfinished = refl; put_open = λ h. live r was };
        })
    at k r y is there (inr apart) =
        let it : r ≡ y = some_same r y (sym is ∙ sym (changes.others k apart) ∙ there) in
        let within : k < call_count ds = omega (arith, slice_get_within states k r is, agrees.many) in
        subst (λ z. TouchesCalmly ds (deed_by seat (Arrive p) (both_effects (ends_and_clears c Cancelled) (opens_served p m (call_count ds)))) k r z) it
        (untouching ds _ k r
        (anew_touches seat (call_count ds) c k p m false false (ne_eqb c k (λ same. apart (sym same))) (ne_eqb (call_count ds) k (λ same. absurd (omega (arith, same, within)))) (λ h. absurd (false≢true h))))

-- the newest call of a name and its number, in other words
pub named_so : (name other : CallName) (n k : ℕ) (before after : Numbers) → other ≡ name → k ≡ n → IsNamed other k before after → IsNamed name n before after
named_so name other n k before after same many named = subst (λ x. IsNamed name x before after) many (subst (λ x. IsNamed x k before after) same named)

module _ {H : Type 0} (now : H → Memo) (can_act : H → Type 0) (rule : HandlerRule) (set : Setting) where
  -- a table whose calls stand elsewhere in memory
  table_recalled : (recorded : Recorded) (states moved : CallStates) (handlers : List (Option H)) (items : List Item) (capacity : ℕ)
      → IsTable now can_act rule set recorded states handlers items capacity → moved.calls.items ≡ states.calls.items
      → IsSameNewest states.newest moved.newest → SameRest states moved → IsTable now can_act rule set recorded moved handlers items capacity
  table_recalled recorded states moved handlers items capacity is same newest rest = record {
    legal = is.legal;
    stands = record {
      agrees = record {
        calls = subst (AgreesOnCalls (history set recorded.entries)) (sym same) is.stands.agrees.calls;
        newest = λ name. newest name ∙ is.stands.agrees.newest name;
        items = ap (λ n. n + flush_count (history set recorded.entries)) rest.unflushed ∙ is.stands.agrees.items;
        closed = λ x. ap (λ xs. has_id xs x) rest.closed ∙ is.stands.agrees.closed x;
        input = rest.input ∙ is.stands.agrees.input;
        halt = rest.halt ∙ is.stands.agrees.halt;
      };
      keeps = is.stands.keeps;
      queue = is.stands.queue;
    };
    room = record {
      room = subst (λ cs. HasRoom cs (length items) moved.input_ended (is_some moved.halted) recorded.spare capacity) (sym same)
          (subst (λ b. HasRoom states.calls.items (length items) b (is_some moved.halted) recorded.spare capacity) (sym rest.input)
          (subst (λ o. HasRoom states.calls.items (length items) states.input_ended (is_some o) recorded.spare capacity) (sym rest.halt) is.room.room));
      places = subst (λ cs. HasPlaces cs moved.input_ended) (sym same) (subst (λ b. HasPlaces states.calls.items b) (sym rest.input) is.room.places);
      few = subst (λ cs. length cs < 2 ^ 32) (sym same) is.room.few;
    };
  }

  -- a table with more room for its calls, items and entries
  pub table_kept : (recorded roomier : Recorded) (states moved : CallStates) (handlers held : List (Option H)) (items items' : List Item) (capacity capacity' : ℕ)
      → IsTable now can_act rule set recorded states handlers items capacity → held ≡ handlers → moved.calls.items ≡ states.calls.items
      → IsSameNewest states.newest moved.newest → SameRest states moved → roomier.entries ≡ recorded.entries → recorded.spare ≤ roomier.spare → items' ≡ items → capacity ≤ capacity'
      → IsTable now can_act rule set roomier moved held items' capacity'
  table_kept recorded roomier states moved handlers held items items' capacity capacity' is kept same newest rest entries spare unmoved wide =
      subst (λ hs. IsTable now can_act rule set roomier moved hs items' capacity') (sym kept)
      (table_roomier now can_act rule set recorded roomier moved handlers items items' capacity capacity'
      (table_recalled recorded states moved handlers items capacity is same newest rest) entries spare unmoved wide)

  pub arrives_opened : (recorded after : Recorded) (seat at : ℕ) (p : Packet) (m : MethodRef) (x : CallState) (h : H) (states later : CallStates) (handlers left : List (Option H)) (items items' : List Item) (capacity capacity' spare : ℕ)
      → IsTable now can_act rule set recorded states handlers items capacity
      → CanTake set recorded.entries seat p (opened_row (call_count (history set recorded.entries)) (opens_served p m (call_count (history set recorded.entries))))
      → at ≡ length recorded.entries → IsServed at p m x → length x.waiting.items < deque_capacity x.waiting → length states.calls.items + 1 < 2 ^ 32
      → can_act h → now h ≡ rule.first set.seed m
      → later.calls.items ≡ states.calls.items ++ x ∷ [] → IsNamed x.name (length states.calls.items) states.newest later.newest → SameRest states later
      → left ≡ handlers ++ Some h ∷ [] → items' ≡ items
      → after.entries ≡ adding recorded.entries seat (Arrive p) → after.spare + 1 ≡ spare
      → length items + items_owed states.calls.items + 2 ≤ capacity'
      → length items + items_owed states.calls.items + 2 + (uncancelled states.calls.items + running states.calls.items + 2) + 2 ≤ spare
      → Arrives now can_act rule set recorded after seat p (opened_row (call_count (history set recorded.entries)) (opens_served p m (call_count (history set recorded.entries)))).answer later left items' capacity'
  arrives_opened recorded after seat at p m x h states later handlers left items items' capacity capacity' spare is can place served own few able first grown named rest kept same adds spent places records =
      let ds : List Deed = history set recorded.entries in
      let its : IsServed (length ds) p m x = subst (λ k. IsServed k p m x) (place ∙ sym (history_length set recorded.entries)) served in
      table_arrived now can_act rule set recorded after seat p (opened_row (call_count ds) (opens_served p m (call_count ds))) later left items' capacity' is.legal can adds
      (subst (λ hs. StandsFor now can_act rule set (deed_by seat (Arrive p) (opens_served p m (call_count ds)) ∷ ds) later hs items') (sym kept)
      (stands_opened now can_act rule set ds seat (Arrive p) (opens_served p m (call_count ds)) (served_opening p m) (Request p.payload ∷ []) states later states.calls.items x h handlers items items' is.stands
      (arrive_opens seat p (opens_served p m (call_count ds)))
      (open_opens ds seat p m states.calls.items x is.stands.agrees.calls its) able first grown
      (record {
        says = same ∙ sym (append-nil items);
        unflushed = rest.unflushed ∙ sym (waits_one now can_act rule set recorded states handlers items capacity is) ∙ ap length (sym same);
        input = rest.input;
        halt = rest.halt;
        closed = rest.closed;
      })
      (newest_opened ds (deed_by seat (Arrive p) (opens_served p m (call_count ds))) (served_opening p m) p.name (call_count ds) states.newest later.newest is.stands.agrees.newest refl refl refl
      (named_so p.name x.name (call_count ds) (length states.calls.items) states.newest later.newest its.name is.stands.agrees.calls.many named))))
      (room_opened states later states.calls.items x items items' 0 after.spare capacity' refl refl its.uncancelled its.idle grown (omega (arith, ap length same))
      (subst (λ b. HasPlaces states.calls.items b) (sym rest.input) is.room.places) own few places
      (subst (λ k. length items + items_owed states.calls.items + 2 + (uncancelled states.calls.items + running states.calls.items + 2) + 2 ≤ k) (sym spent) records))

  pub arrives_anew : (recorded after : Recorded) (seat c at : ℕ) (p : Packet) (m : MethodRef) (x : CallState) (h : H) (states later : CallStates) (mid : List CallState) (handlers left : List (Option H)) (items items' : List Item) (capacity capacity' spare : ℕ)
      → IsTable now can_act rule set recorded states handlers items capacity
      → CanTake set recorded.entries seat p (opened_row (call_count (history set recorded.entries)) (both_effects (ends_and_clears c Cancelled) (opens_served p m (call_count (history set recorded.entries)))))
      → IsLiveCall (history set recorded.entries) c
      → at ≡ length recorded.entries → IsServed at p m x → length x.waiting.items < deque_capacity x.waiting → length states.calls.items + 1 < 2 ^ 32
      → can_act h → now h ≡ rule.first set.seed m → ChangesAt c (Turns at (closing Cancelled)) states.calls.items mid
      → later.calls.items ≡ mid ++ x ∷ [] → IsNamed x.name (length states.calls.items) states.newest later.newest → SameRest states later
      → left ≡ handlers ++ Some h ∷ [] → items' ≡ items
      → after.entries ≡ adding recorded.entries seat (Arrive p) → after.spare + 1 ≡ spare
      → length items + items_owed states.calls.items + 2 ≤ capacity'
      → length items + items_owed states.calls.items + 2 + (uncancelled states.calls.items + running states.calls.items + 2) + 2 ≤ spare
      → Arrives now can_act rule set recorded after seat p (opened_row (call_count (history set recorded.entries)) (both_effects (ends_and_clears c Cancelled) (opens_served p m (call_count (history set recorded.entries))))).answer later left items' capacity'
  arrives_anew recorded after seat c at p m x h states later mid handlers left items items' capacity capacity' spare is can live place served own few able first changes grown named rest kept same adds spent places records =
      let ds : List Deed = history set recorded.entries in
      let there : at ≡ length ds = place ∙ sym (history_length set recorded.entries) in
      let its : IsServed (length ds) p m x = subst (λ k. IsServed k p m x) there served in
      let turned = subst (λ k. ChangesAt c (Turns k (closing Cancelled)) states.calls.items mid) there changes in
      let row = get_some states.calls.items c (omega (arith, live.below, is.stands.agrees.calls.many)) in
      let it = get_some mid c (omega (arith, live.below, is.stands.agrees.calls.many, changes.many)) in
      let turns = turned.here row.0 it.0 row.1 it.1 in
      let counts = counts_one _ states.calls.items mid c row.0 it.0 turned row.1 it.1 in
      let going : uncancelled mid ≡ uncancelled states.calls.items = omega (arith, counts.going, ap (λ b. one_if (not b)) turns.is.cancelled) in
      let busy : running mid ≡ running states.calls.items = omega (arith, counts.busy, ap (λ o. one_if (is_some o)) turns.is.run) in
      let free = places_mid c at states mid row.0 row.1 changes is.room.places in
      table_arrived now can_act rule set recorded after seat p (opened_row (call_count ds) (both_effects (ends_and_clears c Cancelled) (opens_served p m (call_count ds)))) later left items' capacity' is.legal can adds
      (subst (λ hs. StandsFor now can_act rule set (deed_by seat (Arrive p) (both_effects (ends_and_clears c Cancelled) (opens_served p m (call_count ds))) ∷ ds) later hs items') (sym kept)
      (stands_opened now can_act rule set ds seat (Arrive p) (both_effects (ends_and_clears c Cancelled) (opens_served p m (call_count ds))) (served_opening p m) (Request p.payload ∷ []) states later mid x h handlers items items' is.stands
      (arrive_opens seat p (both_effects (ends_and_clears c Cancelled) (opens_served p m (call_count ds))))
      (anew_opens ds seat c p m states.calls.items mid x is.stands.agrees.calls its live.below
      (λ r r_is. live_status now can_act rule set ds states handlers items c r is.stands live r_is) turned) able first grown
      (record {
        says = same ∙ sym (append-nil items);
        unflushed = rest.unflushed ∙ sym (waits_one now can_act rule set recorded states handlers items capacity is) ∙ ap length (sym same);
        input = rest.input;
        halt = rest.halt;
        closed = rest.closed;
      })
      (newest_opened ds (deed_by seat (Arrive p) (both_effects (ends_and_clears c Cancelled) (opens_served p m (call_count ds)))) (served_opening p m) p.name (call_count ds) states.newest later.newest is.stands.agrees.newest refl refl refl
      (named_so p.name x.name (call_count ds) (length states.calls.items) states.newest later.newest its.name is.stands.agrees.calls.many named))))
      (room_opened states later mid x items items' 0 after.spare capacity' going busy its.uncancelled its.idle grown (omega (arith, ap length same))
      (subst (λ b. HasPlaces mid b) (sym rest.input) free) own (omega (arith, few, changes.many)) places
      (subst (λ k. length items + items_owed states.calls.items + 2 + (uncancelled states.calls.items + running states.calls.items + 2) + 2 ≤ k) (sym spent) records))
    where
      ended : Some Cancelled ≡ None → ⊥
      ended h = absurd cc

      places_mid : (c at : ℕ) (states : CallStates) (mid : List CallState) (r : CallState) → slice_get states.calls.items c ≡ Some r
          → ChangesAt c (Turns at (closing Cancelled)) states.calls.items mid → HasPlaces states.calls.items states.input_ended → HasPlaces mid states.input_ended
      places_mid c at states mid r there changes free =
          places_one at (closing Cancelled) states.calls.items mid c states.input_ended changes (slice_get_within states.calls.items c r there)
          (λ q x turn unended. absurd (ended (sym turn.is.status ∙ unended))) free
