use Rattle.std.proofs.Common.{◌≡◌, ℕ, ◌-◌, ◌≤◌, List, ◌++◌, length, take}
use Rattle.turn_cell.specs.Passes.{IsSame}
use Rattle.rpc_ids.specs.declared.method.Role.TheVariants.{Client}
use Rattle.live_client.specs.Feeding.{Fed, Reader, is_feeding}
use Rattle.live_client.specs.Waking.{RangForEach}
use Rattle.live_client.proofs.reading.feed_all.Given as goal

abbrev pub invariant-frames : goal.invariant-frames
invariant-frames g l = record {
  within : l.done ≤ length l.piece;
  reader : Reader is_feeding l.table l.pass;
  same : IsSame l.fn.pass l.pass;
  role : l.listener.role ≡ Client;
  fed : (bytes : List ℕ) → Fed l.fn.listener l.fn.pass bytes → Fed l.listener l.pass (bytes ++ take l.done l.piece);
  bell : l.bell.table ≡ l.fn.bell.table;
  rung : RangForEach 0 l.fn.bell l.bell l.fn.pass l.pass;
}

abbrev pub decreases-frames : goal.decreases-frames
decreases-frames g l = length l.piece - l.done
