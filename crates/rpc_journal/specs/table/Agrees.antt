-- When a plain table of calls agrees with a history.
use Rattle.std.specs.Prelude.{◌≡◌, ℕ, true, ◌+◌, ◌^◌, ◌<◌, ◌≤◌, false, List, [], length, slice_get, Option, Some, None, option_to_list, vec_len, vec_capacity}
use Rattle.std.specs.VecDeque.{deque_len, deque_capacity}
use Rattle.rpc_ids.specs.declared.method.Role.{Role}
use Rattle.rpc_channel.specs.Rising.{has_id}
use Rattle.rpc_handlers.specs.declared.answer.Answer.{Answer}
use Rattle.rpc_journal.specs.table.Touch.{IsSame, IsTouched, events_kept, is_told, items_given, telling}
use Rattle.rpc_journal.specs.declared.table.call_state.CallState.{CallState}
use Rattle.rpc_journal.specs.declared.table.notice.Notice.{Notice}
use Rattle.rpc_journal.specs.declared.table.notice.Notice.TheVariants.{ChannelClosed}
use Rattle.rpc_journal.specs.declared.table.call_states.CallStates.{CallStates}
use Rattle.rpc_journal.specs.Calls.{call_count, call_at, ends_of, is_cancelled, runner_of}
use Rattle.rpc_journal.specs.table.Closing.{live_on}
use Rattle.rpc_journal.specs.Effect.{Opening, Deed}
use Rattle.rpc_journal.specs.Entries.{was_ended}
use Rattle.rpc_journal.specs.Items.{flush_count, halt_reason, input_ended, is_done, items_sent}
use Rattle.rpc_journal.specs.Kinds.{is_empty}
use Rattle.rpc_journal.specs.table.Newest.{AreNewest, IsSameNewest}
use Rattle.rpc_journal.specs.Rows.{is_closed}
use Rattle.rpc_journal.specs.Queues.{waiting_of, taken_event, puts_since, starts_since, is_completed}

-- the state is of a call that opened so
abbrev pub IsOpening : CallState → Option Opening → Type 0
IsOpening r None = ⊥
IsOpening r (Some o) = (o.name ≡ r.name) × (o.method ≡ r.method)

-- the state agrees with what the history says of call c
pub record AgreesOn (ds : List Deed) (c : ℕ) (r : CallState) : Type 0 where
  pub opening : IsOpening r (call_at ds c)
  pub ended : ends_of ds c ≡ option_to_list r.status
  pub cancelled : is_cancelled ds c ≡ r.cancelled
  pub completed : is_completed ds c ≡ r.completed
  pub done : is_done ds c ≡ r.done
  pub run : runner_of ds c ≡ r.run
  pub took_end : was_ended (taken_event ds c) ≡ r.took_end
  pub waiting : waiting_of ds c ≡ r.waiting.items
  pub put : starts_since ds c ≤ length (puts_since ds c)

-- the history says nothing of call c
pub record IsSilentOn (ds : List Deed) (c : ℕ) : Type 0 where
  pub unended : ends_of ds c ≡ []
  pub uncancelled : is_cancelled ds c ≡ false
  pub uncompleted : is_completed ds c ≡ false
  pub undone : is_done ds c ≡ false
  pub idle : runner_of ds c ≡ None
  pub took_none : was_ended (taken_event ds c) ≡ false
  pub empty : puts_since ds c ≡ []
  pub unstarted : starts_since ds c ≡ 0

-- each call has its state, by its number, and nothing is said of further ones
pub record AgreesOnCalls (ds : List Deed) (states : List CallState) : Type 0 where
  pub many : length states ≡ call_count ds
  pub each : (c : ℕ) (r : CallState) → slice_get states c ≡ Some r → AgreesOn ds c r
  pub beyond : (c : ℕ) → call_count ds ≤ c → IsSilentOn ds c

-- the table agrees with what the history says: of each call, which call is the newest of its name, which channels were
-- closed, how many items wait to be flushed, whether the input has ended, and why it was halted
pub record Agrees (ds : List Deed) (t : CallStates) : Type 0 where
  pub calls : AgreesOnCalls ds t.calls.items
  pub newest : AreNewest ds t.newest
  pub closed : (channel : ℕ) → has_id t.closed.items channel ≡ is_closed ds channel
  pub items : t.unflushed + flush_count ds ≡ length (items_sent ds)
  pub input : t.input_ended ≡ input_ended ds
  pub halt : t.halted ≡ halt_reason ds

-- call c is there, and has no end
pub record IsOpenAt (states : List CallState) (c : ℕ) : Type 0 where
  pub within : c < length states
  pub unended : (r : CallState) → slice_get states c ≡ Some r → r.status ≡ None

-- call c is there, and an event waits for it
pub record CanStart (states : List CallState) (c : ℕ) : Type 0 where
  pub within : c < length states
  pub waits : (r : CallState) → slice_get states c ≡ Some r → is_empty r.waiting.items ≡ false

-- call c is there, and its table can count the items of this answer
pub record CanFinish (role : Role) (t : CallStates) (c : ℕ) (a : Answer) : Type 0 where
  pub within : c < length t.calls.items
  pub room : (r : CallState) → slice_get t.calls.items c ≡ Some r → t.unflushed + items_given role r a < 2 ^ 64

-- call c is there, and its table can count two more items
pub record CanCancel (t : CallStates) (c : ℕ) : Type 0 where
  pub within : c < length t.calls.items
  pub room : t.unflushed + 2 < 2 ^ 64

-- call c is there, and there is room for one more event that waits for it
pub record HasRoomAt (states : List CallState) (c : ℕ) : Type 0 where
  pub within : c < length states
  pub room : (r : CallState) → slice_get states c ≡ Some r → deque_len r.waiting < deque_capacity r.waiting

-- and for one more behind that
pub record HasRoomsAt (states : List CallState) (c : ℕ) : Type 0 where
  pub within : c < length states
  pub room : (r : CallState) → slice_get states c ≡ Some r → deque_len r.waiting + 1 < deque_capacity r.waiting

-- the table is as before, but for the room of its queues
pub record IsSameTable (before after : CallStates) : Type 0 where
  pub many : length after.calls.items ≡ length before.calls.items
  pub each : (c : ℕ) (r x : CallState) → slice_get before.calls.items c ≡ Some r → slice_get after.calls.items c ≡ Some x → IsSame r x
  pub newest : IsSameNewest before.newest after.newest
  pub closed : after.closed.items ≡ before.closed.items
  pub unflushed : after.unflushed ≡ before.unflushed
  pub input : after.input_ended ≡ before.input_ended
  pub halt : after.halted ≡ before.halted

-- each call that is told of this has room for the event, behind those that stay
pub record HasRoomFor (notice : Notice) (states : List CallState) : Type 0 where
  pub room : (c : ℕ) (r : CallState) → slice_get states c ≡ Some r → is_told notice r ≡ true → events_kept notice r < deque_capacity r.waiting

-- its channel can be closed: the ends of its calls have their room, the items can be counted, and the channel kept
pub record CanClose (channel : ℕ) (t : CallStates) : Type 0 where
  pub room : HasRoomFor (ChannelClosed channel) t.calls.items
  pub count : t.unflushed + live_on channel t.calls.items < 2 ^ 64
  pub place : vec_len t.closed < vec_capacity t.closed

-- each call was told of this, at this place
pub record IsToldAll (at : ℕ) (notice : Notice) (before after : List CallState) : Type 0 where
  pub many : length after ≡ length before
  pub each : (c : ℕ) (r x : CallState) → slice_get before c ≡ Some r → slice_get after c ≡ Some x → IsTouched at (telling notice r) r x
