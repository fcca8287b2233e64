use Rattle.hdlc_frame.specs.Steps.{Moves}
use Rattle.std.proofs.Common.{◌-◌, ◌≤◌, [], length, take}
use Rattle.hdlc_frame.specs.Machine.{reading_at}
use Rattle.hdlc_frame.proofs.machine.Machine.feed.Given as goal

-- what was read so far ended no segment
abbrev pub invariant-loop-at : goal.invariant-loop-at
invariant-loop-at l = record {
  kept : l.self.len ≤ length l.buffer;
  within : l.at ≤ length l.piece;
  moves : Moves (reading_at l.fn.self l.fn.buffer) (reading_at l.self l.buffer) (take l.at l.piece) [];
}

abbrev pub decreases-loop-at : goal.decreases-loop-at
decreases-loop-at l = length l.piece - l.at
