use Rattle.std.proofs.Common.{length, ◌-◌}
use Rattle.rpc_frames.proofs.Pieces.{HeardNone}
use Rattle.rpc_frames.proofs.listener.Listener.listen_for_packet.Given as goal

abbrev pub invariant-segments : goal.invariant-segments
invariant-segments l = HeardNone l.fn.self l.self l.piece l.taken

abbrev pub decreases-segments : goal.decreases-segments
decreases-segments l = length l.piece - l.taken
