use Rattle.std.proofs.Common.{◌≡◌, ◌-◌, ◌≤◌}
use Rattle.turn_cell.specs.Passes.{IsSame}
use Rattle.rpc_schedule.specs.declared.stream.TheConstants.{INPUT_LIMIT}
use Rattle.live_client.specs.Feeding.{Reader, is_feeding}
use Rattle.live_client.proofs.FeedLemmas.{HasFed}
use Rattle.live_client.specs.Waking.{RangForEach}
use Rattle.live_client.proofs.reading.feed_stream.Given as goal

abbrev pub invariant-pieces : goal.invariant-pieces
invariant-pieces g l = record {
  reader : Reader is_feeding l.table l.pass;
  same : IsSame l.fn.pass l.pass;
  fed : HasFed (g.I.Source.left l.fn.input) (g.I.Source.left l.input) l.total l.listener l.pass;
  later : g.I.Source.faults l.fn.input ≤ g.I.Source.faults l.input;
  bell : l.bell.table ≡ l.fn.bell.table;
  rung : RangForEach 0 l.fn.bell l.bell l.fn.pass l.pass;
}

abbrev pub decreases-pieces : goal.decreases-pieces
decreases-pieces g l = INPUT_LIMIT - l.total
