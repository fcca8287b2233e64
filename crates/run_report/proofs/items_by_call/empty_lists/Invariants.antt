use Rattle.std.proofs.Common.{◌≡◌, []}
use Rattle.run_report.specs.ItemsByCall.{behind_each, items_by_call}
use Rattle.run_report.proofs.items_by_call.empty_lists.Given as goal

abbrev pub invariant-loop-number : goal.invariant-loop-number
invariant-loop-number l = behind_each l.lists.items ≡ items_by_call l._number ([])
