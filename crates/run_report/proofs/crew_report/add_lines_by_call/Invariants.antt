use Rattle.std.proofs.Common.{◌≡◌, ◌++◌, take, string_bytes}
use Rattle.std.specs.List.{flat_map}
use Rattle.run_report.specs.CrewReport.{numbered_lines}
use Rattle.run_report.specs.ItemsByCall.{behind_each}
use Rattle.run_report.proofs.crew_report.add_lines_by_call.Given as goal

abbrev pub invariant-loop-items_of_call : goal.invariant-loop-items_of_call
invariant-loop-items_of_call l =
    string_bytes l.text ≡ string_bytes l.initial.text ++ flat_map numbered_lines (take l.items_of_call-index (behind_each l.items_of_call-items))
