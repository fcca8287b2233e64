use Rattle.std.proofs.Common.{◌≡◌, ◌++◌, ◌≤◌, ◌+◌, length, take}
use Rattle.proto_wire.specs.Varint.{varint_text}
use Rattle.proto_wire.proofs.varint.spell_varint.Given as goal

-- what was written, with the varint of the rest behind it, is the whole, and has room
abbrev pub invariant-loop-rest : goal.invariant-loop-rest
invariant-loop-rest l = record {
  ten : length l.bytes ≡ 10;
  room : l.len + length (varint_text l.rest) ≤ 10;
  leads_on : take l.len l.bytes ++ varint_text l.rest ≡ varint_text l.value;
}

abbrev pub decreases-loop-rest : goal.decreases-loop-rest
decreases-loop-rest l = l.rest
