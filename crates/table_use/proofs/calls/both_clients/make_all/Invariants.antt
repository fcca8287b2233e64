use Rattle.std.proofs.Common.{◌≡◌}
use Rattle.table_use.proofs.calls.both_clients.make_all.Given as goal

abbrev pub invariant-changes : goal.invariant-changes
invariant-changes g l = l.calls.setting ≡ l.fn.calls.setting
