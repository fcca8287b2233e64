use Rattle.std.proofs.Common.{◌≡◌, take}
use Rattle.rpc_calls.proofs.copies.copy_answer.Given as goal

abbrev pub invariant-loop-out : goal.invariant-loop-out
invariant-loop-out l = l.outs.items ≡ take l.out-index l.out-items
