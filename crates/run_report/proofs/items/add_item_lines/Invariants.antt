use Rattle.std.proofs.Common.{◌≡◌, ◌++◌, drop, string_bytes}
use Rattle.run_report.specs.Items.{item_lines, lines_from}
use Rattle.run_report.proofs.items.add_item_lines.Given as goal

abbrev pub invariant-loop-item : goal.invariant-loop-item
invariant-loop-item l =
    string_bytes l.text ++ lines_from l.uploads (drop l.item-index l.items) ≡ string_bytes l.fn.text ++ item_lines l.items
