-- Those of the calls below the next number are counted.
use Rattle.std.proofs.Common.{◌≡◌, ◌≤◌, length}
use Rattle.rpc_calls.proofs.CloseTables.{CountedSoFar}
use Rattle.rpc_calls.proofs.closing_items.count_live.Given as goal

abbrev pub invariant-loop-step : goal.invariant-loop-step
invariant-loop-step g l = record {
  count : l.count ≡ length l.fn.states.states.calls.items;
  ahead : l.step ≤ l.from;
  so_far : CountedSoFar l.channel l.from l.live l.fn.states.states.calls.items;
}
