use Rattle.std.proofs.Common.{◌≡◌, take}
use Rattle.demo_services.proofs.call.memo_from.Given as goal

-- the numbers so far
abbrev pub invariant-loop-word : goal.invariant-loop-word
invariant-loop-word l = l.list ≡ take l.word-index l.words
