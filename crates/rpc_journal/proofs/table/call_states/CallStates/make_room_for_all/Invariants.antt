-- The calls below this one have room, and the table agrees with what it agreed with.
use Rattle.std.proofs.Common.{◌≡◌, ℕ, ◌<◌, length}
use Rattle.rpc_journal.specs.table.Agrees.{HasRoomAt, IsSameTable}
use Rattle.rpc_journal.proofs.table.call_states.CallStates.make_room_for_all.Given as goal

abbrev pub invariant-loop-call : goal.invariant-loop-call
invariant-loop-call l = record {
  many : l.count ≡ length l.self.calls.items;
  same : IsSameTable l.fn.self l.self;
  room : (k : ℕ) → k < l.call → HasRoomAt l.self.calls.items k;
}
