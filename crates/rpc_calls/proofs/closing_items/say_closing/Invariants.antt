-- What is said of the calls below the next number and what is to be said of the rest are the whole.
use Rattle.std.proofs.Common.{◌≡◌, ◌≤◌, ◌++◌, length}
use Rattle.std.specs.VecDeque.{deque_capacity}
use Rattle.rpc_journal.specs.table.Closing.{closing_items}
use Rattle.rpc_calls.proofs.CloseTables.{SaidSoFar}
use Rattle.rpc_calls.proofs.closing_items.say_closing.Given as goal

abbrev pub invariant-loop-step : goal.invariant-loop-step
invariant-loop-step g l = record {
  count : l.count ≡ length l.fn.states.states.calls.items;
  ahead : l.step ≤ l.from;
  so_far : SaidSoFar l.role l.channel l.from (deque_capacity l.items) l.fn.states.states.calls.items l.items.items (l.fn.items.items ++ closing_items l.role l.channel 0 l.fn.states.states.calls.items);
  capacity : deque_capacity l.items ≡ deque_capacity l.fn.items;
}
