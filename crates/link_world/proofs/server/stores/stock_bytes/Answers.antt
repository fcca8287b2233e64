use Rattle.std.proofs.Common.{arith}
use Rattle.link_laws.specs.world.Setup.{made_bytes}
use Rattle.link_world.proofs.server.StockLemmas.{one_byte_more}
use Rattle.link_world.proofs.server.stores.stock_bytes.Goals as goal

pub loop-made-preserved : goal.loop-made-preserved
loop-made-preserved c = record {
  within = omega arith;
  made = one_byte_more c.loop-made.bytes.items c.push.new.self.items (made_bytes c.args.stock.len c.args.stock.seed) c.args.stock.len c.loop-made._made c.loop-made.x c.next_number-x.result
      (omega (arith, c.loop-made-test.true)) c.next_number-x.ensures c.in_ok-push.ensures.items c.loop-made.invariant.made;
}
