use Rattle.std.proofs.Common.{◌≡◌}
use Rattle.table_use.proofs.calls.server_steps.come_often.Given as goal

abbrev pub invariant-times : goal.invariant-times
invariant-times g l = l.calls.setting ≡ l.fn.calls.setting
