use Rattle.std.proofs.Common.{◌≡◌, ◌*◌, ◌≤◌, ◌^◌, take}
use Rattle.run_report.specs.Items.{packet_count, payload_of_items}
use Rattle.run_report.proofs.totals.totals_of.Given as goal

abbrev pub invariant-loop-item : goal.invariant-loop-item
invariant-loop-item l = record {
  packets : l.packets ≡ packet_count (take l.item-index l.items);
  payload : l.payload ≡ payload_of_items (take l.item-index l.items);
  few : l.packets ≤ l.item-index;
  bound : l.payload ≤ l.item-index * 2 ^ 64;
}
