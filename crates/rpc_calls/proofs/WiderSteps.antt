-- A table in which calls have more places for their events.
use Rattle.std.proofs.Common.{◌≡◌, ◌≢◌, ◌⊎◌, ℕ, ◌+◌, ◌<◌, false, not, List, length, slice_get, Option, Some, None, is_some, refl, ap, sym, ◌∙◌, subst, inl, inr, arith}
use Rattle.std.proofs.lemmas.Option.{slice_get_within}
use Rattle.std.specs.VecDeque.{deque_capacity}
use Rattle.rpc_channel.specs.Rising.{has_id}
use Rattle.rpc_handlers.specs.declared.event.Memo.{Memo}
use Rattle.rpc_handlers.specs.HandlerRule.{HandlerRule}
use Rattle.rpc_journal.specs.declared.table.call_state.CallState.{CallState}
use Rattle.rpc_journal.specs.declared.table.call_states.CallStates.{CallStates}
use Rattle.rpc_journal.specs.declared.item.Item.{Item}
use Rattle.rpc_journal.specs.declared.setting.Setting.{Setting}
use Rattle.rpc_journal.specs.History.{history}
use Rattle.rpc_journal.specs.Items.{flush_count}
use Rattle.rpc_journal.specs.Recorded.{Recorded}
use Rattle.rpc_journal.specs.table.Newest.{newest_of}
use Rattle.rpc_journal.specs.table.Agrees.{AgreesOn}
use Rattle.rpc_journal.proofs.PlaceLemmas.{get_some}
use Rattle.rpc_journal.proofs.table.RoomLemmas.{is_same, same_agrees}
use Rattle.rpc_journal.proofs.table.StepLemmas.{same_or_not}
use Rattle.rpc_calls.specs.Marks.{marks_of}
use Rattle.rpc_calls.specs.Places.{ChangesAll, ChangesAt}
use Rattle.rpc_calls.specs.Room.{uncancelled, running, HasRoom}
use Rattle.rpc_calls.specs.TableHolds.{IsTable}
use Rattle.rpc_calls.specs.Widened.{IsWidened, IsWider}
use Rattle.rpc_calls.proofs.NoticeSteps.{same_counts}

pub wider_refl : (r : CallState) → IsWider r r
wider_refl r = record { same = is_same r; capacity = omega arith }

pub wider_trans : (r x y : CallState) → IsWider r x → IsWider x y → IsWider r y
wider_trans r x y first second = record {
  same = record {
    name = second.same.name ∙ first.same.name;
    method = second.same.method ∙ first.same.method;
    status = second.same.status ∙ first.same.status;
    cancelled = second.same.cancelled ∙ first.same.cancelled;
    completed = second.same.completed ∙ first.same.completed;
    done = second.same.done ∙ first.same.done;
    run = second.same.run ∙ first.same.run;
    took_end = second.same.took_end ∙ first.same.took_end;
    waiting = second.same.waiting ∙ first.same.waiting;
  };
  capacity = omega (arith, first.capacity, second.capacity);
}

-- it has the same marks
pub wider_marks : (r x : CallState) → IsWider r x → marks_of x ≡ marks_of r
wider_marks r x wide = rw (wide.same.cancelled, wide.same.run, wide.same.waiting) refl

-- at first all calls are as they were
pub all_wider_refl : (states : List CallState) → ChangesAll IsWider states states
all_wider_refl states = record { many = refl; each = λ k r x was is. let same : r ≡ x = cc in subst (IsWider r) same (wider_refl r) }

-- one more call gets places
pub wider_more : (c : ℕ) (first old new : List CallState) → ChangesAll IsWider first old → ChangesAt c IsWider old new → ChangesAll IsWider first new
wider_more c first old new so_far change = record {
  many = change.many ∙ so_far.many;
  each = λ k r x was is. at k r x was is (same_or_not k c);
}
  where
    at : (k : ℕ) (r x : CallState) → slice_get first k ≡ Some r → slice_get new k ≡ Some x → (k ≡ c) ⊎ (k ≢ c) → IsWider r x
    at k r x was is (inl same) =
        let within : k < length first = slice_get_within _ _ _ was in
        let mid = get_some old k (omega (arith, within, so_far.many)) in
        wider_trans r mid.0 x (so_far.each k r mid.0 was mid.1)
        (change.here mid.0 x (subst (λ n. slice_get old n ≡ Some mid.0) same mid.1) (subst (λ n. slice_get new n ≡ Some x) same is))
    at k r x was is (inr apart) = so_far.each k r x was (sym (change.others k apart) ∙ is)

module _ {H : Type 0} (now : H → Memo) (can_act : H → Type 0) (rule : HandlerRule) (set : Setting) where
  -- a table in which all calls have more places
  pub table_all_wider : (recorded : Recorded) (states mid : CallStates) (handlers : List (Option H)) (items : List Item) (capacity : ℕ)
      → IsTable now can_act rule set recorded states handlers items capacity → ChangesAll IsWider states.calls.items mid.calls.items
      → mid.unflushed ≡ states.unflushed → mid.input_ended ≡ states.input_ended → mid.halted ≡ states.halted → mid.newest ≡ states.newest → mid.closed.items ≡ states.closed.items
      → IsTable now can_act rule set recorded mid handlers items capacity
  table_all_wider recorded states mid handlers items capacity is wide unflushed input halt newest chans =
      let going : uncancelled mid.calls.items ≡ uncancelled states.calls.items =
      same_counts (λ r. not r.cancelled) states.calls.items mid.calls.items wide.many (λ k x y was later. ap not (wide.each k x y was later).same.cancelled) in
      let busy : running mid.calls.items ≡ running states.calls.items =
      same_counts (λ r. is_some r.run) states.calls.items mid.calls.items wide.many (λ k x y was later. ap is_some (wide.each k x y was later).same.run) in
      record {
        legal = is.legal;
        stands = record {
          agrees = record {
            calls = record {
              many = wide.many ∙ is.stands.agrees.calls.many;
              each = λ k y there. tell k y there;
              beyond = is.stands.agrees.calls.beyond;
            };
            newest = λ name. ap (λ m. newest_of m name) newest ∙ is.stands.agrees.newest name;
            items = ap (λ n. n + flush_count (history set recorded.entries)) unflushed ∙ is.stands.agrees.items;
            input = input ∙ is.stands.agrees.input;
            closed = λ x. ap (λ xs. has_id xs x) chans ∙ is.stands.agrees.closed x;
            halt = halt ∙ is.stands.agrees.halt;
          };
          keeps = is.stands.keeps;
          queue = is.stands.queue;
        };
        room = record {
          room = subst (λ b. HasRoom mid.calls.items (length items) b (is_some mid.halted) recorded.spare capacity) (sym input)
              (subst (λ o. HasRoom mid.calls.items (length items) states.input_ended (is_some o) recorded.spare capacity) (sym halt)
              (record { items_fit = omega (arith, is.room.room.items_fit, going, busy); entries_fit = omega (arith, is.room.room.entries_fit, going, busy) }));
          places = record { one = λ k y there. one k y there; free = λ k y there unended open_now. place k y there unended (sym input ∙ open_now) };
          few = omega (arith, is.room.few, wide.many);
        };
      }
    where
      old : (k : ℕ) (y : CallState) → slice_get mid.calls.items k ≡ Some y → (r : CallState) × (slice_get states.calls.items k ≡ Some r)
      old k y there =
          let within : k < length mid.calls.items = slice_get_within _ _ _ there in
          get_some states.calls.items k (omega (arith, within, wide.many))

      tell : (k : ℕ) (y : CallState) → slice_get mid.calls.items k ≡ Some y → AgreesOn (history set recorded.entries) k y
      tell k y there =
          let row = old k y there in
          same_agrees (history set recorded.entries) k row.0 y (is.stands.agrees.calls.each k row.0 row.1) (wide.each k row.0 y row.1 there).same

      one : (k : ℕ) (y : CallState) → slice_get mid.calls.items k ≡ Some y → 0 < deque_capacity y.waiting
      one k y there =
          let row = old k y there in
          omega (arith, (wide.each k row.0 y row.1 there).capacity, is.room.places.one k row.0 row.1)

      place : (k : ℕ) (y : CallState) → slice_get mid.calls.items k ≡ Some y → y.status ≡ None → states.input_ended ≡ false → length y.waiting.items < deque_capacity y.waiting
      place k y there unended open_now =
          let row = old k y there in
          let its = wide.each k row.0 y row.1 there in
          omega (arith, its.capacity, ap length its.same.waiting, is.room.places.free k row.0 row.1 (sym its.same.status ∙ unended) open_now)

  -- a table in which one call has more places
  pub table_widened : (recorded : Recorded) (c : ℕ) (states mid : CallStates) (handlers : List (Option H)) (items : List Item) (capacity : ℕ)
      → IsTable now can_act rule set recorded states handlers items capacity → IsWidened c states mid
      → IsTable now can_act rule set recorded mid handlers items capacity
  table_widened recorded c states mid handlers items capacity is wide =
      table_all_wider recorded states mid handlers items capacity is (wider_more c states.calls.items states.calls.items mid.calls.items (all_wider_refl states.calls.items) wide.change)
      wide.unflushed wide.input wide.halt wide.newest wide.closed
