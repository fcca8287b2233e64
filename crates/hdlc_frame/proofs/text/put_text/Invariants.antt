use Rattle.std.proofs.Common.{◌≡◌, ◌++◌, ◌≤◌, drop, length, take}
use Rattle.std.specs.List.{flat_map}
use Rattle.hdlc_frame.specs.Encoded.{text_of_octet}
use Rattle.hdlc_frame.proofs.text.put_text.Given as goal

-- what was written, with the text of the octets to come behind it, is the whole
abbrev pub invariant-loop-octet : goal.invariant-loop-octet
invariant-loop-octet l = record {
  within : l.end ≤ length l.out;
  same : length l.out ≡ length l.fn.out;
  leads_on : take l.end l.out ++ flat_map text_of_octet (drop l.octet-index l.content) ≡ take l.at l.fn.out ++ flat_map text_of_octet l.content;
}
