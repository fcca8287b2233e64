use Rattle.std.proofs.Common.{◌≡◌, ◌-◌, ◌≤◌, ◌++◌}
use Rattle.link_laws.specs.world.Setup.{made_bytes}
use Rattle.link_world.proofs.server.stores.stock_bytes.Given as goal

abbrev pub invariant-loop-made : goal.invariant-loop-made
invariant-loop-made l = record {
  within : l._made ≤ l.fn.stock.len;
  made : l.bytes.items ++ made_bytes (l.fn.stock.len - l._made) l.x ≡ made_bytes l.fn.stock.len l.fn.stock.seed;
}
