-- A table over the Close of a channel.
use Rattle.std.proofs.Common.{◌≡◌, ◌⊎◌, inl, inr, ℕ, zero, suc, ◌+◌, ◌-◌, ◌<◌, ◌≤◌, Bool, true, false, not, List, [], ◌∷◌, ◌++◌, length, drop, slice_get, Option, Some, None, Ok, is_some, if◌then◌else◌, refl, ap, sym, ◌∙◌, subst, arith, append_assoc, length-append}
use Rattle.std.proofs.lemmas.List.{append-nil}
use Rattle.std.proofs.lemmas.Option.{slice_get_within}
use Rattle.std.specs.VecDeque.{deque_capacity}
use Rattle.rpc_ids.specs.declared.method.Role.{Role}
use Rattle.rpc_ids.specs.declared.status.Status.TheVariants.{Aborted}
use Rattle.rpc_handlers.specs.declared.event.Memo.{Memo}
use Rattle.rpc_handlers.specs.HandlerRule.{HandlerRule}
use Rattle.rpc_journal.specs.declared.table.call_state.CallState.{CallState}
use Rattle.rpc_journal.specs.declared.table.call_states.CallStates.{CallStates}
use Rattle.rpc_journal.specs.declared.entry.EntryKind.TheVariants.{Close}
use Rattle.rpc_journal.specs.declared.item.Item.{Item}
use Rattle.rpc_journal.specs.declared.table.notice.Notice.TheVariants.{ChannelClosed}
use Rattle.rpc_journal.specs.declared.setting.Setting.{Setting}
use Rattle.rpc_journal.specs.ChangeLaws.{KeepsLegal}
use Rattle.rpc_journal.specs.Changes.{CloseDid}
use Rattle.rpc_journal.specs.table.Closing.{closing_items, live_on}
use Rattle.rpc_journal.specs.Effect.{Deed}
use Rattle.rpc_journal.specs.Entries.{close_effect, error_type}
use Rattle.rpc_journal.specs.History.{history, adding}
use Rattle.rpc_journal.specs.Items.{flush_count, items_sent}
use Rattle.rpc_journal.specs.Recorded.{Recorded}
use Rattle.rpc_journal.specs.Refusals.{close_refusal}
use Rattle.rpc_journal.specs.Rows.{packet_item, status_packet}
use Rattle.rpc_journal.specs.table.Agrees.{HasRoomFor, IsToldAll}
use Rattle.rpc_journal.specs.table.Touch.{IsTouched, closing, is_told, telling, untouched}
use Rattle.rpc_journal.specs.table.Turns.{IsTold}
use Rattle.rpc_journal.proofs.table.CloseLemmas.{close_ends, close_says, closing_length, table_closed}
use Rattle.rpc_journal.proofs.LegalLemmas.{keeps_legal}
use Rattle.rpc_journal.proofs.PlaceLemmas.{below_or_not, get_some}
use Rattle.rpc_journal.proofs.VerdictLemmas.{history_length}
use Rattle.rpc_calls.specs.Facts.{IsDoneWith}
use Rattle.rpc_calls.specs.Marks.{one_if}
use Rattle.rpc_calls.specs.Places.{ChangesAll}
use Rattle.rpc_calls.specs.Room.{uncancelled, running, items_owed}
use Rattle.rpc_calls.specs.TableHolds.{IsTable}
use Rattle.rpc_calls.proofs.CalmSteps.{queue_grows, table_after}
use Rattle.rpc_calls.proofs.FlushSteps.{waits_one}
use Rattle.rpc_calls.proofs.NoticeSteps.{left, notice_keeps, same_counts}
use Rattle.rpc_calls.proofs.PlaceChanges.{count-cons}
use Rattle.rpc_calls.proofs.TellSteps.{not_told}
use Rattle.rpc_calls.proofs.TouchTables.{room_grown}

-- a call that is still live wasn't told, and waits for no more than before
record StaysLive (r y : CallState) : Type 0 where
  pub unended : r.status ≡ None
  pub fewer : length y.waiting.items ≤ length r.waiting.items

stays_live : (at channel : ℕ) (r y : CallState) → IsTold at (ChannelClosed channel) r y → y.status ≡ None → StaysLive r y
stays_live at channel r y told unended = by (is_told (ChannelClosed channel) r) told.is
  where
    ended : Some Aborted ≡ None → ⊥
    ended h = absurd cc

    by : (b : Bool) → IsTouched at (if b then closing Aborted else untouched) r y → StaysLive r y
    by true is = absurd (ended (sym is.status ∙ unended))
    by false is = record { unended = sym is.status ∙ unended; fewer = omega (arith, ap length is.waiting, length-append r.waiting.items []) }

-- one more item, where there is one, before the rest
pub one_before : (b : Bool) (items rest : List Item) (item : Item)
    → (items ++ (if b then item ∷ [] else [])) ++ rest ≡ items ++ (if b then item ∷ rest else rest)
one_before true items rest item = append_assoc items (item ∷ []) rest
one_before false items rest item = ap (λ xs. xs ++ rest) (append-nil items)

length_if : (b : Bool) (item : Item) → length (if b then item ∷ [] else []) ≡ one_if b
length_if true item = refl
length_if false item = refl

-- a list from the place of this element on
pub drop_from : {A : Type 0} (xs : List A) (n : ℕ) (x : A) → slice_get xs n ≡ Some x → drop n xs ≡ x ∷ drop (n + 1) xs
drop_from [] n x is = absurd cc
drop_from (y ∷ ys) zero x is = let same : y ≡ x = cc in ap (λ z. z ∷ ys) same
drop_from (y ∷ ys) (suc n) x is =
    let same : suc (n + 1) ≡ suc n + 1 = omega arith in
    subst (λ k. drop n ys ≡ x ∷ drop k (y ∷ ys)) same (drop_from ys n x is)

-- the call with this number has been told, and the next ones are to be
pub record SaidSoFar (role : Role) (channel c capacity : ℕ) (states : List CallState) (items whole : List Item) : Type 0 where
  pub said : items ++ closing_items role channel c (drop c states) ≡ whole
  pub room : length items + live_on channel (drop c states) ≤ capacity

pub say_next : (role : Role) (channel c capacity capacity' : ℕ) (states : List CallState) (r : CallState) (items items' whole : List Item) → slice_get states c ≡ Some r
    → items' ≡ items ++ (if is_told (ChannelClosed channel) r then packet_item c (status_packet (error_type role) r.name Aborted) ∷ [] else [])
    → capacity' ≡ capacity → SaidSoFar role channel c capacity states items whole → SaidSoFar role channel (c + 1) capacity' states items' whole
say_next role channel c capacity capacity' states r items items' whole there more same so_far =
    let from : drop c states ≡ r ∷ drop (c + 1) states = drop_from states c r there in
    let item : Item = packet_item c (status_packet (error_type role) r.name Aborted) in
    let counted : live_on channel (drop c states) ≡ one_if (is_told (ChannelClosed channel) r) + live_on channel (drop (c + 1) states) =
    ap (live_on channel) from ∙ count-cons (is_told (ChannelClosed channel)) r (drop (c + 1) states) in
    record {
      said = ap (λ ys. ys ++ closing_items role channel (c + 1) (drop (c + 1) states)) more
          ∙ one_before (is_told (ChannelClosed channel) r) items (closing_items role channel (c + 1) (drop (c + 1) states)) item
          ∙ ap (λ zs. items ++ closing_items role channel c zs) (sym from) ∙ so_far.said;
      room = omega (arith, so_far.room, counted, same, ap length more, length-append items (if is_told (ChannelClosed channel) r then item ∷ [] else []), length_if (is_told (ChannelClosed channel) r) item);
    }

-- nothing goes out of calls that aren't told
said_over : (role : Role) (channel d n capacity : ℕ) (states : List CallState) (items whole : List Item) → n + d ≤ length states
    → ((k : ℕ) (r : CallState) → n ≤ k → k < n + d → slice_get states k ≡ Some r → is_told (ChannelClosed channel) r ≡ false)
    → SaidSoFar role channel n capacity states items whole → SaidSoFar role channel (n + d) capacity states items whole
said_over role channel zero n capacity states items whole within untold so_far =
    let same : n ≡ n + 0 = omega arith in
    subst (λ k. SaidSoFar role channel k capacity states items whole) same so_far
said_over role channel (suc d) n capacity states items whole within untold so_far =
    let row = get_some states n (omega (arith, within)) in
    let item : Item = packet_item n (status_packet (error_type role) row.0.name Aborted) in
    let no : is_told (ChannelClosed channel) row.0 ≡ false = untold n row.0 (omega arith) (omega arith) row.1 in
    let none : items ≡ items ++ (if is_told (ChannelClosed channel) row.0 then item ∷ [] else []) = sym (ap (λ b. items ++ (if b then item ∷ [] else [])) no ∙ append-nil items) in
    let same : n + 1 + d ≡ n + suc d = omega arith in
    subst (λ k. SaidSoFar role channel k capacity states items whole) same
    (said_over role channel d (n + 1) capacity states items whole (omega (arith, within)) (λ k r from below is. untold k r (omega (arith, from)) (omega (arith, below)) is)
    (say_next role channel n capacity capacity states row.0 items items whole row.1 none refl so_far))

pub said_skip : (role : Role) (channel n m capacity : ℕ) (states : List CallState) (items whole : List Item) → n ≤ m → m ≤ length states
    → ((k : ℕ) (r : CallState) → n ≤ k → k < m → slice_get states k ≡ Some r → IsDoneWith r)
    → SaidSoFar role channel n capacity states items whole → SaidSoFar role channel m capacity states items whole
said_skip role channel n m capacity states items whole further within done so_far =
    let same : n + (m - n) ≡ m = omega (arith, further) in
    subst (λ k. SaidSoFar role channel k capacity states items whole) same
    (said_over role channel (m - n) n capacity states items whole (omega (arith, within, same))
    (λ k r from below is. not_told (ChannelClosed channel) r (done k r from (omega (arith, below, same)) is).over) so_far)

-- so many of the calls below this number are live on the channel
pub record CountedSoFar (channel n live : ℕ) (states : List CallState) : Type 0 where
  pub counted : live + live_on channel (drop n states) ≡ live_on channel states

pub counted_next : (channel n live : ℕ) (states : List CallState) (r : CallState) → slice_get states n ≡ Some r → CountedSoFar channel n live states
    → CountedSoFar channel (n + 1) (live + one_if (is_told (ChannelClosed channel) r)) states
counted_next channel n live states r there so_far =
    let counted : live_on channel (drop n states) ≡ one_if (is_told (ChannelClosed channel) r) + live_on channel (drop (n + 1) states) =
    ap (live_on channel) (drop_from states n r there) ∙ count-cons (is_told (ChannelClosed channel)) r (drop (n + 1) states) in
    record { counted = omega (arith, so_far.counted, counted) }

counted_over : (channel d n live : ℕ) (states : List CallState) → n + d ≤ length states
    → ((k : ℕ) (r : CallState) → n ≤ k → k < n + d → slice_get states k ≡ Some r → is_told (ChannelClosed channel) r ≡ false)
    → CountedSoFar channel n live states → CountedSoFar channel (n + d) live states
counted_over channel zero n live states within untold so_far =
    let same : n ≡ n + 0 = omega arith in
    subst (λ k. CountedSoFar channel k live states) same so_far
counted_over channel (suc d) n live states within untold so_far =
    let row = get_some states n (omega (arith, within)) in
    let none : live + one_if (is_told (ChannelClosed channel) row.0) ≡ live = ap (λ b. live + one_if b) (untold n row.0 (omega arith) (omega arith) row.1) ∙ omega arith in
    let same : n + 1 + d ≡ n + suc d = omega arith in
    subst (λ k. CountedSoFar channel k live states) same
    (counted_over channel d (n + 1) live states (omega (arith, within)) (λ k r from below is. untold k r (omega (arith, from)) (omega (arith, below)) is)
    (subst (λ l. CountedSoFar channel (n + 1) l states) none (counted_next channel n live states row.0 row.1 so_far)))

pub counted_skip : (channel n m live : ℕ) (states : List CallState) → n ≤ m → m ≤ length states
    → ((k : ℕ) (r : CallState) → n ≤ k → k < m → slice_get states k ≡ Some r → IsDoneWith r)
    → CountedSoFar channel n live states → CountedSoFar channel m live states
counted_skip channel n m live states further within done so_far =
    let same : n + (m - n) ≡ m = omega (arith, further) in
    subst (λ k. CountedSoFar channel k live states) same
    (counted_over channel (m - n) n live states (omega (arith, within, same))
    (λ k r from below is. not_told (ChannelClosed channel) r (done k r from (omega (arith, below, same)) is).over) so_far)

-- at first nothing is said
pub said_none : (role : Role) (channel capacity : ℕ) (states : List CallState) (items : List Item) → length items + live_on channel states ≤ capacity
    → SaidSoFar role channel 0 capacity states items (items ++ closing_items role channel 0 states)
said_none role channel capacity states items room = record { said = refl; room = room }

drop_all : {A : Type 0} (xs : List A) (n : ℕ) → length xs ≤ n → drop n xs ≡ []
drop_all [] zero past = refl
drop_all [] (suc n) past = refl
drop_all (x ∷ xs) zero past = absurd (omega (arith, past))
drop_all (x ∷ xs) (suc n) past = drop_all xs n (omega (arith, past))

-- and at last all is
pub all_said : (role : Role) (channel c capacity : ℕ) (states : List CallState) (items whole : List Item) → length states ≤ c
    → SaidSoFar role channel c capacity states items whole → items ≡ whole
all_said role channel c capacity states items whole past so_far =
    sym (append-nil items) ∙ ap (λ zs. items ++ closing_items role channel c zs) (sym (drop_all states c past)) ∙ so_far.said

-- a call that is told has its place
pub say_place : (role : Role) (channel c capacity : ℕ) (states : List CallState) (r : CallState) (items whole : List Item) → slice_get states c ≡ Some r
    → is_told (ChannelClosed channel) r ≡ true → SaidSoFar role channel c capacity states items whole → length items < capacity
say_place role channel c capacity states r items whole there told so_far =
    let from : drop c states ≡ r ∷ drop (c + 1) states = drop_from states c r there in
    let counted : live_on channel (drop c states) ≡ one_if (is_told (ChannelClosed channel) r) + live_on channel (drop (c + 1) states) =
    ap (live_on channel) from ∙ count-cons (is_told (ChannelClosed channel)) r (drop (c + 1) states) in
    omega (arith, so_far.room, counted, ap one_if told)

-- all calls are counted
pub counted_all : (channel n live : ℕ) (states : List CallState) → length states ≤ n → CountedSoFar channel n live states → live ≡ live_on channel states
counted_all channel n live states past so_far =
    let none : live_on channel (drop n states) ≡ 0 = ap (live_on channel) (drop_all states n past) in
    omega (arith, so_far.counted, none)

-- where all further calls are done with
pub said_end : (role : Role) (channel n capacity : ℕ) (states : List CallState) (items whole : List Item) → ((k : ℕ) (r : CallState) → n ≤ k → slice_get states k ≡ Some r → IsDoneWith r)
    → SaidSoFar role channel n capacity states items whole → items ≡ whole
said_end role channel n capacity states items whole done so_far = by (below_or_not n (length states))
  where
    by : (n < length states) ⊎ (length states ≤ n) → items ≡ whole
    by (inl below) =
        all_said role channel (length states) capacity states items whole (omega arith)
        (said_skip role channel n (length states) capacity states items whole (omega (arith, below)) (omega arith) (λ k r from less is. done k r from is) so_far)
    by (inr past) = all_said role channel n capacity states items whole past so_far

pub counted_end : (channel n live : ℕ) (states : List CallState) → ((k : ℕ) (r : CallState) → n ≤ k → slice_get states k ≡ Some r → IsDoneWith r)
    → CountedSoFar channel n live states → live ≡ live_on channel states
counted_end channel n live states done so_far = by (below_or_not n (length states))
  where
    by : (n < length states) ⊎ (length states ≤ n) → live ≡ live_on channel states
    by (inl below) =
        counted_all channel (length states) live states (omega arith)
        (counted_skip channel n (length states) live states (omega (arith, below)) (omega arith) (λ k r from less is. done k r from is) so_far)
    by (inr past) = counted_all channel n live states past so_far

module _ {H : Type 0} (now : H → Memo) (can_act : H → Type 0) (rule : HandlerRule) (set : Setting) where
  -- each call has a place for its end
  pub close_room : (recorded : Recorded) (channel : ℕ) (states : CallStates) (handlers : List (Option H)) (items : List Item) (capacity : ℕ)
      → IsTable now can_act rule set recorded states handlers items capacity → HasRoomFor (ChannelClosed channel) states.calls.items
  close_room recorded channel states handlers items capacity is = record { room = λ c r there told. is.room.places.one c r there }

  pub record Closes (recorded after : Recorded) (seat channel n : ℕ) (later : CallStates) (handlers : List (Option H)) (items' : List Item) (capacity : ℕ) : Type 0 where
    pub table : IsTable now can_act rule set after later handlers items' capacity
    pub did : CloseDid set seat channel (Ok n) recorded.entries after.entries

  pub table_shut : (recorded after : Recorded) (seat channel at n : ℕ) (states later : CallStates) (handlers : List (Option H)) (items items' : List Item) (capacity capacity' spare : ℕ)
      → IsTable now can_act rule set recorded states handlers items capacity → close_refusal set recorded.entries channel ≡ None
      → at ≡ length recorded.entries → n ≡ live_on channel states.calls.items
      → ChangesAll (IsTold at (ChannelClosed channel)) states.calls.items later.calls.items
      → later.unflushed ≡ length items' → later.input_ended ≡ states.input_ended → later.halted ≡ states.halted → later.newest ≡ states.newest
      → later.closed.items ≡ states.closed.items ++ channel ∷ []
      → items' ≡ items ++ closing_items set.role channel 0 states.calls.items
      → after.entries ≡ adding recorded.entries seat (Close channel) → after.spare + 1 ≡ spare
      → length items + items_owed states.calls.items + n ≤ capacity'
      → length items + items_owed states.calls.items + n + (uncancelled states.calls.items + running states.calls.items + 2) + 1 ≤ spare
      → Closes recorded after seat channel n later handlers items' capacity'
  table_shut recorded after seat channel at n states later handlers items items' capacity capacity' spare is unrefused place many changes counted input halt newest chans says adds spent places records =
      let ds : List Deed = history set recorded.entries in
      let told : IsToldAll (length ds) (ChannelClosed channel) states.calls.items later.calls.items =
      record {
        many = changes.many;
        each = λ k r x was later_is. subst (λ j. IsTouched j (telling (ChannelClosed channel) r) r x) (place ∙ sym (history_length set recorded.entries)) (changes.each k r x was later_is).is;
      } in
      let grown : length items' ≡ length items + n =
      omega (arith, ap length says, length-append items (closing_items set.role channel 0 states.calls.items), closing_length set.role channel 0 states.calls.items, many) in
      let more : later.unflushed ≡ states.unflushed + live_on channel states.calls.items =
      omega (arith, counted, grown, many, waits_one now can_act rule set recorded states handlers items capacity is) in
      let within : flush_count ds ≤ length (items_sent ds) = omega (arith, is.stands.agrees.items) in
      let did : CloseDid set seat channel (Ok n) recorded.entries after.entries =
      record { unrefused = unrefused; answer = many ∙ sym (close_ends set.role ds channel states.calls.items is.stands.agrees.calls); adds = adds; cause = tt; kept = tt } in
      let laws : KeepsLegal H (Unit {0}) = keeps_legal in
      record {
        table = table_after now can_act rule set recorded after seat (Close channel) later handlers items' capacity' adds
            (laws.close_channel rule set seat channel (Ok n) recorded.entries after.entries is.legal did)
            (record {
              agrees = table_closed set ds seat channel states later is.stands.agrees told newest chans more input halt;
              keeps = notice_keeps now can_act rule set ds seat (ChannelClosed channel) handlers is.stands.keeps;
              queue = says ∙ ap (λ xs. items ++ xs) (sym (close_says set.role ds channel states.calls.items is.stands.agrees.calls))
                  ∙ queue_grows items (items_sent ds) (close_effect set.role ds channel).says (flush_count ds) within is.stands.queue;
            })
            (room_grown states later items items' n after.spare capacity'
            (same_counts (λ r. not r.cancelled) states.calls.items later.calls.items changes.many (λ k x y was later_is. ap not (left at (ChannelClosed channel) x y (changes.each k x y was later_is)).cancelled))
            (same_counts (λ r. is_some r.run) states.calls.items later.calls.items changes.many (λ k x y was later_is. ap is_some (left at (ChannelClosed channel) x y (changes.each k x y was later_is)).run))
            grown
            (record { one = λ k y there. one k y there; free = λ k y there unended open_now. free k y there unended (sym input ∙ open_now) })
            (omega (arith, is.room.few, changes.many)) places
            (subst (λ k. length items + items_owed states.calls.items + n + (uncancelled states.calls.items + running states.calls.items + 2) + 1 ≤ k) (sym spent) records));
        did = did;
      }
    where
      before : (k : ℕ) (y : CallState) → slice_get later.calls.items k ≡ Some y → (r : CallState) × (slice_get states.calls.items k ≡ Some r)
      before k y there = get_some states.calls.items k (omega (arith, slice_get_within later.calls.items k y there, changes.many))

      one : (k : ℕ) (y : CallState) → slice_get later.calls.items k ≡ Some y → 0 < deque_capacity y.waiting
      one k y there =
          let row = before k y there in
          omega (arith, (changes.each k row.0 y row.1 there).capacity, is.room.places.one k row.0 row.1)

      free : (k : ℕ) (y : CallState) → slice_get later.calls.items k ≡ Some y → y.status ≡ None → states.input_ended ≡ false → length y.waiting.items < deque_capacity y.waiting
      free k y there unended open_now =
          let row = before k y there in
          let its = changes.each k row.0 y row.1 there in
          let stays = stays_live at channel row.0 y its unended in
          omega (arith, its.capacity, stays.fewer, is.room.places.free k row.0 row.1 stays.unended open_now)
