use Rattle.std.proofs.Common.{◌≡◌}
use Rattle.table_use.proofs.calls.many.open_each.Given as goal

abbrev pub invariant-loop-call : goal.invariant-loop-call
invariant-loop-call g l = l.calls.setting ≡ l.fn.calls.setting
