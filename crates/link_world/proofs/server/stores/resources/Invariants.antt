use Rattle.std.proofs.Common.{◌≡◌, take}
use Rattle.link_laws.specs.world.Setup.{made_resources}
use Rattle.link_world.proofs.server.stores.resources.Given as goal

abbrev pub invariant-loop-stock : goal.invariant-loop-stock
invariant-loop-stock l = l.fulls ≡ made_resources (take l.stock-index l.stocks)
