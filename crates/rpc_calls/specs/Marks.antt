-- What a table's counts and its list of waiting calls know of one call.
use Rattle.std.specs.Prelude.{ℕ, ◌||◌, Bool, false, not, Option, Some, None, is_some, if◌then◌else◌}
use Rattle.rpc_journal.specs.declared.table.call_state.CallState.{CallState}
use Rattle.rpc_journal.specs.Choice.{first_place}
use Rattle.rpc_journal.specs.Kinds.{is_empty}
use Rattle.rpc_calls.specs.declared.marks.Marks.{Marks}

abbrev pub one_if : Bool → ℕ
one_if b = if b then 1 else 0

-- an event waits for the call
abbrev pub is_queued : CallState → Bool
is_queued r = not (is_empty r.waiting.items)

-- one does, and the call doesn't run
abbrev pub waits : CallState → Bool
waits r = not (is_some r.run || is_empty r.waiting.items)

-- the place since which one does
abbrev pub oldest_since : CallState → Option ℕ
oldest_since r = if is_some r.run || is_empty r.waiting.items then None else Some (first_place r.waiting.items)

abbrev pub marks_of : CallState → Marks
marks_of r = record { uncancelled = not r.cancelled; runs = is_some r.run; queued = is_queued r; since = oldest_since r }

-- of a call that isn't there
abbrev pub no_marks : Marks
no_marks = record { uncancelled = false; runs = false; queued = false; since = None }
