use Rattle.std.proofs.Common.{◌≡◌, ◌+◌, ◌-◌, ◌*◌, ◌/◌, ◌^◌}
use Rattle.hdlc_frame.specs.CheckSequence.{after_bits}
use Rattle.hdlc_frame.proofs.crc.after_word.Given as goal

-- what the zeros make of the octets so far, the upper ones
abbrev pub invariant-loop-i : goal.invariant-loop-i
invariant-loop-i l = l.after ≡ after_bits (8 * (l.lane + l.i)) (l.word / 2 ^ (8 * (4 - l.i))) 0
