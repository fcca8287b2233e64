-- How the state of a call changes: as the entry says, and with no less room for its events.
use Rattle.std.specs.Prelude.{ℕ, ◌≤◌}
use Rattle.std.specs.VecDeque.{deque_capacity}
use Rattle.rpc_journal.specs.declared.table.call_state.CallState.{CallState}
use Rattle.rpc_journal.specs.declared.table.notice.Notice.{Notice}
use Rattle.rpc_journal.specs.table.Touch.{Touch, IsTouched, telling}

pub record Turns (at : ℕ) (t : Touch) (r x : CallState) : Type 0 where
  pub is : IsTouched at t r x
  pub capacity : deque_capacity r.waiting ≤ deque_capacity x.waiting

-- the call was told of this, where it was to be
abbrev pub IsTold : ℕ → Notice → CallState → CallState → Type 0
IsTold at notice r x = Turns at (telling notice r) r x
