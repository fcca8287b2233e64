-- The room that a table has taken for what is never refused.
use Rattle.std.specs.Prelude.{◌≡◌, ℕ, ◌+◌, ◌*◌, ◌<◌, ◌≤◌, Bool, false, not, List, length, slice_get, count_by, Some, None, is_some, if◌then◌else◌}
use Rattle.std.specs.VecDeque.{deque_capacity}
use Rattle.rpc_journal.specs.declared.table.call_state.CallState.{CallState}

-- how many calls can still be cancelled
abbrev pub uncancelled : List CallState → ℕ
uncancelled states = count_by (λ r. not r.cancelled) states

-- how many calls run
abbrev pub running : List CallState → ℕ
running states = count_by (λ r. is_some r.run) states

-- the items still to come that take no memory: of a Cancel the end and LeaveCall, of a Finish at most 512 items and the
-- end
abbrev pub items_owed : List CallState → ℕ
items_owed states = 2 * uncancelled states + 513 * running states

-- the entries still to come that take no memory, but for those of items: a Cancel, a Finish, EndIn and Halt
abbrev pub entries_owed : List CallState → Bool → Bool → ℕ
entries_owed states ended halted =
    uncancelled states + running states + (if ended then 0 else 1) + (if halted then 0 else 1)

-- the items that wait and those still to come have their places, each has its Flush, and the other entries have theirs
pub record HasRoom (states : List CallState) (items : ℕ) (ended halted : Bool) (spare capacity : ℕ) : Type 0 where
  pub items_fit : items + items_owed states ≤ capacity
  pub entries_fit : items + items_owed states + entries_owed states ended halted ≤ spare

-- until the input ends each open call has a place for one more event, and each call always has one for its end
pub record HasPlaces (states : List CallState) (ended : Bool) : Type 0 where
  pub one : (c : ℕ) (r : CallState) → slice_get states c ≡ Some r → 0 < deque_capacity r.waiting
  pub free : (c : ℕ) (r : CallState) → slice_get states c ≡ Some r → r.status ≡ None → ended ≡ false → length r.waiting.items < deque_capacity r.waiting
