use Rattle.std.proofs.Common.{◌≡◌, ◌+◌, ◌%◌, ◌^◌, sum, take}
use Rattle.demo_services.proofs.sum.add_bytes.Given as goal

-- the total with the bytes so far added
abbrev pub invariant-loop-byte : goal.invariant-loop-byte
invariant-loop-byte l = l.total ≡ (l.fn.total + sum (take l.byte-index l.bytes)) % 2 ^ 64
