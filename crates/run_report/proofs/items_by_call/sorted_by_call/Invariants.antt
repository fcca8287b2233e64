use Rattle.std.proofs.Common.{◌≡◌, take}
use Rattle.run_report.specs.ItemsByCall.{behind, behind_each, items_by_call, replies}
use Rattle.run_report.proofs.items_by_call.sorted_by_call.Given as goal

abbrev pub invariant-loop-item : goal.invariant-loop-item
invariant-loop-item l = record {
  replies : behind l.replies ≡ replies (take l.item-index l.items);
  calls : behind_each l.calls.items ≡ items_by_call l.count (take l.item-index l.items);
}
