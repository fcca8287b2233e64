use Rattle.std.proofs.Common.{◌≡◌}
use Rattle.table_use.proofs.calls.turns.all_go_out.Given as goal

abbrev pub invariant-loop-goes : goal.invariant-loop-goes
invariant-loop-goes g l = l.calls.setting ≡ l.fn.calls.setting
