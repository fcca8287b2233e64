-- The report of a run.
use Rattle.std.specs.Prelude.{ℕ, List, ◌++◌}
use Rattle.std.specs.List.{flat_map, enumerate_from}
use Rattle.rpc_journal.specs.declared.item.Item.{Item}
use Rattle.rpc_journal.specs.Calls.{calls, end_of}
use Rattle.rpc_journal.specs.Effect.{Deed, Opening}
use Rattle.rpc_journal.specs.CallTable.{Table, past}
use Rattle.rpc_frames.specs.declared.counts.Counts.{Counts}
use Rattle.rpc_schedule.specs.declared.ending.Ending.{Ending}
use Rattle.run_report.specs.Items.{item_lines}
use Rattle.run_report.specs.Lines.{frames_line, call_line, ending_line}

-- the line of a call with its number
abbrev pub line_of_call : List Deed → ℕ × Opening → List ℕ
line_of_call ds numbered =
    call_line numbered.0 numbered.1.name numbered.1.method.kind (end_of ds numbered.0)

-- a line for each call of a history, by number
abbrev pub call_lines : List Deed → List ℕ
call_lines ds = flat_map (line_of_call ds) (enumerate_from 0 (calls ds))

-- the counts, the calls, the items that went out, and how the reading of the stream ended
abbrev pub report : Table → Counts → List Item → Ending → List ℕ
report table counts items ending =
    frames_line counts ++ call_lines (past table) ++ item_lines items ++ ending_line ending
