use Rattle.std.proofs.Common.{◌≡◌, ◌++◌, map, drop, string_bytes}
use Rattle.run_report.specs.CrewReport.{numbered_lines, numbered_lines_from}
use Rattle.run_report.proofs.crew_report.add_numbered_lines.Given as goal

abbrev pub invariant-loop-item : goal.invariant-loop-item
invariant-loop-item l =
    string_bytes l.text ++ numbered_lines_from l.uploads (map (λ item. item.now) (drop l.item-index l.items))
    ≡ string_bytes l.fn.text ++ numbered_lines (map (λ item. item.now) l.items)
