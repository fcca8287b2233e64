use Rattle.std.proofs.Common.{◌≡◌, length}
use Rattle.hdlc_frame.specs.CheckSequence.{after_octets}
use Rattle.hdlc_frame.proofs.crc.register_after.Given as goal

-- the rest leads on to the same
abbrev pub invariant-words : goal.invariant-words
invariant-words l = after_octets l.after l.rest ≡ after_octets l.register l.octets

abbrev pub decreases-words : goal.decreases-words
decreases-words l = length l.rest
