-- What a table keeps beside the states of its calls, so that it needn't go over all of them.
use Rattle.std.specs.Prelude.{◌≡◌, ℕ, ◌<◌, ◌≤◌, ◌^◌, List, length, slice_get, count_by, Some}
use Rattle.std.specs.List.{Contains}
use Rattle.std.specs.VecDeque.{deque_capacity}
use Rattle.rpc_journal.specs.declared.table.call_state.CallState.{CallState}
use Rattle.rpc_calls.specs.declared.index.Index.{Index}
use Rattle.rpc_calls.specs.declared.marks.Marks.{Marks}
use Rattle.rpc_calls.specs.Listed.{CanRelist, InOrder, Relists, waits_since}
use Rattle.rpc_calls.specs.Marks.{oldest_since, waits}
use Rattle.rpc_calls.specs.Owed.{Counts, Recounts, owed_by}

-- the counts are those of the calls; each call that doesn't run and for which an event waits is in the list with the place
-- since which one does; the list is in order, no longer than these are many, and has a place for each call; and the calls are few enough
-- to be numbered
pub record IsIndexed (states : List CallState) (index : Index) : Type 0 where
  pub counts : index.owed ≡ owed_by states
  pub covers : (c : ℕ) (r : CallState) (p : ℕ) → slice_get states c ≡ Some r → oldest_since r ≡ Some p → Contains index.waiting.calls.items (waits_since c p)
  pub order : InOrder index.waiting.calls.items
  pub short : length index.waiting.calls.items ≤ count_by waits states
  pub places : length states ≤ deque_capacity index.waiting.calls
  pub few : length states < 2 ^ 32

-- a call with these marks is counted, and is in the list or has a place there
pub record CanReindex (c : ℕ) (was : Marks) (index : Index) : Type 0 where
  pub owed : Counts was index.owed
  pub waiting : CanRelist c was.since index.waiting.calls.items (deque_capacity index.waiting.calls)

-- the call has changed from the first of these marks to the second
pub record Reindexes (c : ℕ) (was is : Marks) (index after : Index) : Type 0 where
  pub owed : Recounts was is index.owed after.owed
  pub waiting : Relists c was.since is.since index.waiting.calls.items after.waiting.calls.items
  pub capacity : deque_capacity index.waiting.calls ≤ deque_capacity after.waiting.calls
