use Rattle.std.proofs.Common.{◌≡◌, drop}
use Rattle.hdlc_frame.specs.CheckSequence.{after_octets}
use Rattle.hdlc_frame.proofs.crc.after_each.Given as goal

-- the rest leads on to the same
abbrev pub invariant-loop-octet : goal.invariant-loop-octet
invariant-loop-octet l = after_octets l.after (drop l.octet-index l.octets) ≡ after_octets l.register l.octets
