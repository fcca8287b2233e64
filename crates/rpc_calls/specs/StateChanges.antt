-- What an entry does to the state of one call.
use Rattle.std.specs.Prelude.{◌≡◌, ◌<◌, ◌+◌, Bool, true, false, None, is_some, length}
use Rattle.std.specs.VecDeque.{deque_capacity}
use Rattle.rpc_handlers.specs.declared.event.Event.TheVariants.{Message}
use Rattle.rpc_journal.specs.declared.table.call_state.CallState.{CallState}
use Rattle.rpc_journal.specs.Kinds.{is_empty}
use Rattle.rpc_journal.specs.table.Touch.{Touch, starting, finishing_so, cancelling, closing, putting, ending, answering, completing, telling, is_told, events_kept}
use Rattle.rpc_calls.specs.declared.state_change.StateChange.{StateChange}
use Rattle.rpc_calls.specs.declared.state_change.StateChange.TheVariants.{Start, Finish, Cancel, Close, Put, End, Answer, Complete, Tell}

abbrev pub touch_of : StateChange → CallState → Touch
touch_of (Start seat) r = starting seat
touch_of (Finish end completes) r = finishing_so end completes
touch_of Cancel r = cancelling r.status
touch_of (Close status) r = closing status
touch_of (Put event) r = putting event
touch_of (End status) r = ending status
touch_of (Answer payload status) r = answering (Message payload) status
touch_of Complete r = completing
touch_of (Tell notice) r = telling notice r

-- a call in this state can change so, and there is room for its events
abbrev pub CanTurn : StateChange → CallState → Type 0
CanTurn (Start seat) r = is_empty r.waiting.items ≡ false
CanTurn (Finish end completes) r = is_some end ≡ true → r.status ≡ None
CanTurn Cancel r = Unit {0}
CanTurn (Close status) r = (r.status ≡ None) × (0 < deque_capacity r.waiting)
CanTurn (Put event) r = length r.waiting.items < deque_capacity r.waiting
CanTurn (End status) r = (r.status ≡ None) × (length r.waiting.items < deque_capacity r.waiting)
CanTurn (Answer payload status) r = (r.status ≡ None) × (length r.waiting.items + 1 < deque_capacity r.waiting)
CanTurn Complete r = Unit {0}
CanTurn (Tell notice) r = is_told notice r ≡ true → events_kept notice r < deque_capacity r.waiting

abbrev pub is_start : StateChange → Bool
is_start (Start seat) = true
is_start _ = false
