use Rattle.std.proofs.Common.{◌≡◌}
use Rattle.table_use.proofs.calls.taking.tick_often.Given as goal

abbrev pub invariant-loop-now : goal.invariant-loop-now
invariant-loop-now g l = l.calls.setting ≡ l.fn.calls.setting
