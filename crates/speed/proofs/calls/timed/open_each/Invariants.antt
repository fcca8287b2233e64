use Rattle.speed.specs.Fed.{IsFed}
use Rattle.speed.proofs.calls.timed.open_each.Given as goal

abbrev pub invariant-loop-id : goal.invariant-loop-id
invariant-loop-id l = IsFed l.calls
