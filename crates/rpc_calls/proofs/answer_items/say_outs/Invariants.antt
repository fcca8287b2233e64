use Rattle.std.proofs.Common.{◌≡◌, ◌+◌, ◌≤◌, ◌++◌, flat_map}
use Rattle.std.specs.VecDeque.{deque_len, deque_capacity}
use Rattle.rpc_journal.specs.Entries.{answer_item}
use Rattle.rpc_calls.proofs.answer_items.say_outs.Given as goal

abbrev pub invariant-loop-out : goal.invariant-loop-out
invariant-loop-out l = record {
  items : l.items.items ++ flat_map (answer_item l.role l.call l.name l.says) l.outs.items ≡ l.fn.items.items ++ flat_map (answer_item l.role l.call l.name l.says) l.fn.outs.items;
  len : deque_len l.items + deque_len l.outs ≤ deque_len l.fn.items + deque_len l.fn.outs;
  capacity : deque_capacity l.items ≡ deque_capacity l.fn.items;
}

abbrev pub decreases-loop-out : goal.decreases-loop-out
decreases-loop-out l = deque_len l.outs
