-- A table in which a call has got more places for its events.
use Rattle.std.specs.Prelude.{◌≡◌, ℕ, ◌+◌, ◌≤◌, List, length, slice_get, Some, None}
use Rattle.std.specs.VecDeque.{deque_capacity}
use Rattle.rpc_journal.specs.declared.table.call_state.CallState.{CallState}
use Rattle.rpc_journal.specs.declared.table.call_states.CallStates.{CallStates}
use Rattle.rpc_journal.specs.table.Touch.{IsSame}
use Rattle.rpc_calls.specs.Places.{ChangesAt}

-- the state of a call, with no fewer places
pub record IsWider (r x : CallState) : Type 0 where
  pub same : IsSame r x
  pub capacity : deque_capacity r.waiting ≤ deque_capacity x.waiting

pub record IsWidened (c : ℕ) (states after : CallStates) : Type 0 where
  pub change : ChangesAt c IsWider states.calls.items after.calls.items
  pub newest : after.newest ≡ states.newest
  pub unflushed : after.unflushed ≡ states.unflushed
  pub input : after.input_ended ≡ states.input_ended
  pub halt : after.halted ≡ states.halted
  pub closed : after.closed.items ≡ states.closed.items

-- there are places for two more events
abbrev pub HasTwoPlaces : CallState → Type 0
HasTwoPlaces r = length r.waiting.items + 2 ≤ deque_capacity r.waiting

-- there are for each call without an end
pub record OpensHaveTwo (states : List CallState) : Type 0 where
  pub free : (c : ℕ) (r : CallState) → slice_get states c ≡ Some r → r.status ≡ None → HasTwoPlaces r
