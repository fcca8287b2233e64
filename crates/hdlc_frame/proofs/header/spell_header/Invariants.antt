use Rattle.std.proofs.Common.{◌≡◌, ◌≤◌, length, take}
use Rattle.hdlc_frame.proofs.Headers.{Begun}
use Rattle.hdlc_frame.proofs.header.spell_header.Given as goal

abbrev pub invariant-loop-rest : goal.invariant-loop-rest
invariant-loop-rest l = record {
  six : length l.octets ≡ 6;
  len : l.len ≤ 4;
  begun : Begun l.address l.rest (take l.len l.octets);
}

abbrev pub decreases-loop-rest : goal.decreases-loop-rest
decreases-loop-rest l = l.rest
