-- The counts of the calls that still owe items and entries.
use Rattle.std.specs.Prelude.{◌≡◌, ℕ, ◌+◌, ◌*◌, ◌<◌, ◌≤◌, ◌^◌, List, count_by}
use Rattle.rpc_journal.specs.declared.table.call_state.CallState.{CallState}
use Rattle.rpc_calls.specs.declared.marks.Marks.{Marks}
use Rattle.rpc_calls.specs.declared.owed.Owed.{Owed}
use Rattle.rpc_calls.specs.Marks.{is_queued, one_if}
use Rattle.rpc_calls.specs.Room.{uncancelled, running}

-- the counts of these calls
abbrev pub owed_by : List CallState → Owed
owed_by states = record { uncancelled = uncancelled states; running = running states; queued = count_by is_queued states }

-- the items that these counts stand for
abbrev pub items_of : Owed → ℕ
items_of owed = 2 * owed.uncancelled + 513 * owed.running

-- a call with these marks is counted, and the counts fit in 32 bits
pub record Counts (was : Marks) (owed : Owed) : Type 0 where
  pub open_one : one_if was.uncancelled ≤ owed.uncancelled
  pub busy_one : one_if was.runs ≤ owed.running
  pub queued_one : one_if was.queued ≤ owed.queued
  pub few_open : owed.uncancelled < 2 ^ 32
  pub few_busy : owed.running < 2 ^ 32
  pub few_queued : owed.queued < 2 ^ 32

-- one call has changed from the first of these marks to the second
pub record Recounts (was is : Marks) (owed after : Owed) : Type 0 where
  pub open_now : after.uncancelled + one_if was.uncancelled ≡ owed.uncancelled + one_if is.uncancelled
  pub busy_now : after.running + one_if was.runs ≡ owed.running + one_if is.runs
  pub queued_now : after.queued + one_if was.queued ≡ owed.queued + one_if is.queued
