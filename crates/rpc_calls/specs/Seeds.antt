-- The seed of a table's maker.
use Rattle.std.specs.Prelude.{◌≡◌}
use Rattle.rpc_ids.specs.declared.method.Role.{Role}
use Rattle.rpc_ids.specs.declared.method.Role.TheVariants.{Server, Client}
use Rattle.rpc_handlers.specs.declared.event.Memo.{Memo}
use Rattle.rpc_handlers.specs.HandlerRule.{empty_memo}

-- no call arrives at a client, and its seed is the empty memo
abbrev pub IsSeedFor : Role → Memo → Type 0
IsSeedFor Server seed = Unit {0}
IsSeedFor Client seed = seed ≡ empty_memo
