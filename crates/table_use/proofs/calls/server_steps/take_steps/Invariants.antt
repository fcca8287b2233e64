use Rattle.std.proofs.Common.{◌≡◌}
use Rattle.table_use.proofs.calls.server_steps.take_steps.Given as goal

abbrev pub invariant-steps : goal.invariant-steps
invariant-steps g l = l.calls.setting ≡ l.fn.calls.setting
