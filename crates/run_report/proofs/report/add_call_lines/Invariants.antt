use Rattle.std.proofs.Common.{◌≡◌, ◌++◌, take, string_bytes}
use Rattle.std.specs.List.{flat_map, enumerate_from}
use Rattle.rpc_journal.specs.Calls.{calls}
use Rattle.rpc_journal.specs.CallTable.{past}
use Rattle.run_report.specs.Report.{line_of_call}
use Rattle.run_report.proofs.report.add_call_lines.Given as goal

abbrev pub invariant-loop-number : goal.invariant-loop-number
invariant-loop-number g l =
    string_bytes l.text ≡ string_bytes l.fn.text ++ flat_map (line_of_call (past l.calls)) (take l.number (enumerate_from 0 (calls (past l.calls))))
