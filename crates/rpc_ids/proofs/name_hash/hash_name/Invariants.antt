use Rattle.std.proofs.Common.{◌≡◌, ◌+◌, ◌%◌, ◌^◌, drop}
use Rattle.rpc_ids.specs.Names.{sum_of_powers, name_id}
use Rattle.rpc_ids.proofs.name_hash.hash_name.Given as goal

-- the hash and the powers of the bytes to come lead to the id
abbrev pub invariant-loop-byte : goal.invariant-loop-byte
invariant-loop-byte l = record {
  leads_on : (l.hash + sum_of_powers (l.byte-index + 1) (drop l.byte-index l.name)) % 2 ^ 32 ≡ name_id l.name;
  power : l.power ≡ 65599 ^ (l.byte-index + 1) % 2 ^ 32;
}
