use Rattle.std.proofs.Common.{◌≡◌, ◌-◌, ◌≤◌, ◌^◌, ◌%◌, drop, length}
use Rattle.proto_wire.specs.Varint.{groups_front, varint_front}
use Rattle.proto_wire.proofs.VarintLemmas.{finish}
use Rattle.proto_wire.proofs.reader.read_varint.Given as goal

-- the groups so far, with those to come on top, are the varint
abbrev pub invariant-loop-index : goal.invariant-loop-index
invariant-loop-index l = record {
  leads_on : finish l.value l.index (groups_front (10 - l.index) (drop l.index l.bytes)) ≡ varint_front l.bytes;
  within : l.index ≤ length l.bytes;
  weight : l.weight ≡ 128 ^ l.index % 2 ^ 64;
}
