-- What one entry does to one call, and to what a plain table keeps of it.
use Rattle.std.specs.Prelude.{◌≡◌, ℕ, Bool, true, false, not, ◌&&◌, ◌||◌, ◌==◌, nat_lt, List, [], ◌∷◌, ◌++◌, length, map, drop, slice_get, Option, Some, None, is_some, is_none, option_to_list, count_by, ◌+◌, if◌then◌else◌}
use Rattle.std.specs.List.{list_any}
use Rattle.std.specs.VecDeque.{deque_len}
use Rattle.rpc_ids.specs.declared.method.Kind.{Kind}
use Rattle.rpc_ids.specs.declared.method.Role.{Role}
use Rattle.rpc_ids.specs.declared.method.Role.TheVariants.{Server, Client}
use Rattle.rpc_ids.specs.declared.status.Status.{Status}
use Rattle.rpc_ids.specs.declared.status.Status.TheVariants.{Cancelled, Unavailable, Aborted}
use Rattle.rpc_handlers.specs.declared.answer.Answer.{Answer}
use Rattle.rpc_handlers.specs.declared.answer.End.{End}
use Rattle.rpc_handlers.specs.declared.answer.Out.{Out}
use Rattle.rpc_handlers.specs.declared.answer.Out.TheVariants.{Say}
use Rattle.rpc_handlers.specs.declared.event.Event.{Event}
use Rattle.rpc_handlers.specs.declared.event.Event.TheVariants.{Ended, Request, Tick}
use Rattle.rpc_journal.specs.declared.table.notice.Notice.{Notice}
use Rattle.rpc_journal.specs.declared.table.notice.Notice.TheVariants.{Time, InputEnded, ChannelClosed}
use Rattle.rpc_journal.specs.declared.waiting.Waiting.{Waiting}
use Rattle.rpc_journal.specs.declared.table.call_state.CallState.{CallState}
use Rattle.rpc_journal.specs.Calls.{of_call, is_start_of, is_finish_of, is_cancel_of}
use Rattle.rpc_ids.specs.declared.method.MethodRef.{MethodRef}
use Rattle.rpc_packet.specs.declared.call_name.CallName.{CallName}
use Rattle.rpc_packet.specs.declared.owned.Packet.{Packet}
use Rattle.rpc_journal.specs.Effect.{Deed}
use Rattle.rpc_journal.specs.Entries.{messages_go, was_ended}
use Rattle.rpc_journal.specs.Items.{is_for, sends_completion}
use Rattle.rpc_journal.specs.Kinds.{is_empty, is_okay, is_unary, or_else}
use Rattle.rpc_journal.specs.Queues.{is_completion, is_tick, drops_of, put_at}

-- what one entry does to one call: the seat that starts it, whether its run ends, whether it is cancelled, whether this
-- client completes its stream, the status that ends it, whether its waiting events go, and the events that are put to it
pub record Touch : Type 0 where
  pub starts : Option ℕ
  pub finishes : Bool
  pub cancels : Bool
  pub completes : Bool
  pub ends : Option Status
  pub clears : Bool
  pub puts : List Event

abbrev pub untouched : Touch
untouched =
    record { starts = None; finishes = false; cancels = false; completes = false; ends = None; clears = false; puts = [] }

abbrev pub starting : ℕ → Touch
starting seat = record untouched { starts = Some seat }

abbrev pub finishing : Option Status → Touch
finishing end = record untouched { finishes = true; ends = end; clears = is_some end }

-- and this client's stream is completed, or isn't
abbrev pub finishing_so : Option Status → Bool → Touch
finishing_so end completes = record (finishing end) { completes = completes }

abbrev pub cancelling : Option Status → Touch
cancelling status = record untouched { cancels = true; ends = if is_some status then None else Some Cancelled; clears = true }

abbrev pub closing : Status → Touch
closing status = record untouched { ends = Some status; clears = true; puts = Ended status ∷ [] }

abbrev pub putting : Event → Touch
putting event = record untouched { puts = event ∷ [] }

-- it ends, and Ended waits behind its other events
abbrev pub ending : Status → Touch
ending status = record untouched { ends = Some status; puts = Ended status ∷ [] }

-- the same, and an event waits before Ended
abbrev pub answering : Event → Status → Touch
answering event status = record untouched { ends = Some status; puts = event ∷ Ended status ∷ [] }

abbrev pub completing : Touch
completing = record untouched { completes = true }

-- the deed does this to call c
pub record Touches (d : Deed) (c : ℕ) (t : Touch) : Type 0 where
  pub starts : (if is_start_of c d.entry.kind then Some d.entry.seat else None) ≡ t.starts
  pub finishes : is_finish_of c d.entry.kind ≡ t.finishes
  pub cancels : is_cancel_of c d.entry.kind ≡ t.cancels
  pub completes : list_any (λ item. is_for c item.call && sends_completion item.act) d.does.says ≡ t.completes
  pub ends : of_call c d.does.ends ≡ option_to_list t.ends
  pub clears : drops_of d c ≡ t.clears
  pub puts : of_call c d.does.puts ≡ t.puts
  pub alone : is_some t.starts ≡ true → (t.clears ≡ false) × (t.puts ≡ [])

-- the oldest of these is an Ended
abbrev pub begins_with_end : List Waiting → Bool
begins_with_end ws = was_ended (slice_get (map (λ w. w.event) ws) 0)

-- the state of a call behind an entry at this place that does this to it
pub record IsTouched (at : ℕ) (t : Touch) (before after : CallState) : Type 0 where
  pub name : after.name ≡ before.name
  pub method : after.method ≡ before.method
  pub status : after.status ≡ or_else t.ends before.status
  pub cancelled : after.cancelled ≡ (t.cancels || before.cancelled)
  pub completed : after.completed ≡ (list_any is_completion t.puts || before.completed)
  pub done : after.done ≡ (before.done || t.completes)
  pub run : after.run ≡ (if is_some t.starts then t.starts else if t.finishes then None else before.run)
  pub took_end : after.took_end ≡ (if is_some t.starts then begins_with_end before.waiting.items else before.took_end)
  pub waiting : after.waiting.items ≡ (if is_some t.starts then drop 1 before.waiting.items else (if t.clears then [] else before.waiting.items) ++ put_at at t.puts)
  pub once : is_some t.ends ≡ true → before.status ≡ None
  pub some : is_some t.starts ≡ true → is_empty before.waiting.items ≡ false

-- a run of the call can begin
abbrev pub is_startable : CallState → ℕ → Bool → Bool
is_startable r unflushed halted =
    not (is_empty r.waiting.items) && is_none r.run && not r.cancelled && nat_lt unflushed 65536 && not halted

-- the call is to be told of the time
abbrev pub wants_time : CallState → Bool
wants_time r =
    r.method.ticks && is_none r.status && not (list_any (λ w. is_tick w.event) r.waiting.items) && nat_lt (length r.waiting.items) 64

-- the answer of the call's run is heard: the call has no end, and the run didn't take an Ended
abbrev pub hears_answer : CallState → Bool
hears_answer r = is_none r.status && not r.took_end

-- the messages of the answer go out
abbrev pub says_messages : Role → CallState → Bool
says_messages role r = messages_go role r.method.kind (hears_answer r) r.done

-- the status with which the end of an answer that is heard ends its call: at a client one with OK ends none
abbrev pub end_by : Role → Option End → Option Status
end_by role None = None
end_by Server (Some end) = Some end.status
end_by Client (Some end) = if is_okay end.status then None else Some end.status

-- it completes the stream of a client's call, where there is one that isn't complete
abbrev pub completes_by : Role → Kind → Bool → Option End → Bool
completes_by role kind done None = false
completes_by Server kind done (Some end) = false
completes_by Client kind done (Some end) = is_okay end.status && not (is_unary kind || done)

-- the peer is told of it
abbrev pub tells_end : Role → Kind → Bool → Option End → Bool
tells_end role kind done None = false
tells_end Server kind done (Some end) = true
tells_end Client kind done (Some end) = not (is_okay end.status) || not (is_unary kind || done)

-- the end that an answer with this end gives to the call of its run
abbrev pub end_given : Role → CallState → Option End → Option Status
end_given role r end = if not r.cancelled && hears_answer r then end_by role end else None

-- such an answer completes the call's stream
abbrev pub completes_given : Role → CallState → Option End → Bool
completes_given role r end = not r.cancelled && hears_answer r && completes_by role r.method.kind r.done end

abbrev pub is_message : Out → Bool
is_message (Say payload) = true
is_message _ = false

-- how many items the answer of the call's run adds
abbrev pub items_given : Role → CallState → Answer → ℕ
items_given role r a =
    if r.cancelled then 1
    else count_by (λ out. not (is_message out) || says_messages role r) a.items
    + (if hears_answer r && tells_end role r.method.kind r.done a.end then 1 else 0)

-- how many items a cancel of the call adds
abbrev pub items_of_cancel : CallState → ℕ
items_of_cancel r = (if is_some r.status then 0 else 1) + (if is_some r.run then 0 else 1)

-- the state is as before, but for the room of its queue
pub record IsSame (before after : CallState) : Type 0 where
  pub name : after.name ≡ before.name
  pub method : after.method ≡ before.method
  pub status : after.status ≡ before.status
  pub cancelled : after.cancelled ≡ before.cancelled
  pub completed : after.completed ≡ before.completed
  pub done : after.done ≡ before.done
  pub run : after.run ≡ before.run
  pub took_end : after.took_end ≡ before.took_end
  pub waiting : after.waiting.items ≡ before.waiting.items

-- the state of a call as it opens, with these events waiting for it
pub record IsOpened (at : ℕ) (called : CallName) (method : MethodRef) (events : List Event) (r : CallState) : Type 0 where
  pub name : r.name ≡ called
  pub of_method : r.method ≡ method
  pub unended : r.status ≡ None
  pub uncancelled : r.cancelled ≡ false
  pub uncompleted : r.completed ≡ false
  pub undone : r.done ≡ false
  pub idle : r.run ≡ None
  pub took_none : r.took_end ≡ false
  pub waiting : r.waiting.items ≡ put_at at events

-- a packet opens the call at a server: its request waits
abbrev pub IsServed : ℕ → Packet → MethodRef → CallState → Type 0
IsServed at p method r = IsOpened at p.name method (Request p.payload ∷ []) r

-- a client opens the call: no event waits
abbrev pub IsInvoked : CallName → MethodRef → CallState → Type 0
IsInvoked called method r = IsOpened 0 called method [] r

-- the call is told of this
abbrev pub is_told : Notice → CallState → Bool
is_told (Time now) r = wants_time r
is_told InputEnded r = is_none r.status
is_told (ChannelClosed channel) r = is_none r.status && (r.name.channel == channel)

-- what it does to a call that is told
abbrev pub touch_told : Notice → Touch
touch_told (Time now) = putting (Tick now)
touch_told InputEnded = putting (Ended Unavailable)
touch_told (ChannelClosed channel) = closing Aborted

abbrev pub telling : Notice → CallState → Touch
telling notice r = if is_told notice r then touch_told notice else untouched

-- how many events of a call that is told stay before the new one
abbrev pub events_kept : Notice → CallState → ℕ
events_kept (Time now) r = deque_len r.waiting
events_kept InputEnded r = deque_len r.waiting
events_kept (ChannelClosed channel) r = 0
