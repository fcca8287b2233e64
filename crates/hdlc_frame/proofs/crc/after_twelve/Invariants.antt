use Rattle.std.proofs.Common.{◌≡◌, ◌-◌, ◌*◌, take}
use Rattle.hdlc_frame.specs.CheckSequence.{after_bits, after_octets}
use Rattle.hdlc_frame.proofs.crc.after_twelve.Given as goal

-- what the octets so far make of zeros, and then the zeros in the place of those behind them
abbrev pub invariant-loop-i : goal.invariant-loop-i
invariant-loop-i l = l.after ≡ after_bits (8 * (12 - l.i)) (after_octets 0 (take l.i l.octets)) 0
