use Rattle.std.proofs.Common.{◌≡◌}
use Rattle.turn_cell.specs.Passes.{IsSame}
use Rattle.rpc_journal.specs.Items.{arrivals}
use Rattle.live_client.specs.Feeding.{Reader, is_feeding}
use Rattle.live_client.specs.Waking.{RangForEach}
use Rattle.live_client.proofs.reading.take_in.Given as goal

abbrev pub invariant-loop : goal.invariant-loop
invariant-loop g l = record {
  reader : Reader is_feeding l.table l.pass;
  same : IsSame l.fn.pass l.pass;
  kept : arrivals l.pass.view.known.mine ≡ arrivals l.fn.pass.view.known.mine;
  bell : l.bell.table ≡ l.fn.bell.table;
  rung : RangForEach 0 l.fn.bell l.bell l.fn.pass l.pass;
}
