use Rattle.std.proofs.Common.{◌≡◌}
use Rattle.demo_services.specs.Count.{count_to}
use Rattle.demo_services.proofs.count.numbers_to.Given as goal

-- the messages so far
abbrev pub invariant-loop-below : goal.invariant-loop-below
invariant-loop-below l = l.items ≡ count_to l.below
