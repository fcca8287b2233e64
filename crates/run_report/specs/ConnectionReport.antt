-- The report of one connection among several.
use Rattle.std.specs.Prelude.{ℕ, List, ◌++◌}
use Rattle.link_io.specs.declared.why.Why.{Why}
use Rattle.rpc_journal.specs.CallTable.{Table, past}
use Rattle.rpc_frames.specs.declared.counts.Counts.{Counts}
use Rattle.run_report.specs.Lines.{connection_line, frames_line, why_line}
use Rattle.run_report.specs.Report.{call_lines}

-- its number, the counts, the calls, and why its session ended; what went out is on the connection itself
abbrev pub connection_report : ℕ → Table → Counts → Why → List ℕ
connection_report number table counts why =
    connection_line number ++ frames_line counts ++ call_lines (past table) ++ why_line why
