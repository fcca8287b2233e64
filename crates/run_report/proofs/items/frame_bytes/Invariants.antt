use Rattle.std.proofs.Common.{◌≡◌, take}
use Rattle.run_report.specs.Items.{frames_of_items}
use Rattle.run_report.proofs.items.frame_bytes.Given as goal

abbrev pub invariant-loop-item : goal.invariant-loop-item
invariant-loop-item l = l.bytes.items ≡ frames_of_items (take l.item-index l.items)
