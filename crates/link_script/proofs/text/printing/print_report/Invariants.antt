use Rattle.std.proofs.Common.{◌≡◌, ◌++◌, string_bytes, drop}
use Rattle.link_script.specs.text.Report.{command_lines}
use Rattle.link_script.proofs.text.printing.print_report.Given as goal

-- what stands there, with the lines to come, is the whole
abbrev pub invariant-loop-line : goal.invariant-loop-line
invariant-loop-line l = string_bytes l.text ++ command_lines (drop l.line-index l.line-items) ≡ string_bytes l.initial.text ++ command_lines l.line-items
