use Rattle.speed.specs.Fed.{IsFed}
use Rattle.speed.proofs.calls.timed.serve.Given as goal

abbrev pub invariant-loop-message : goal.invariant-loop-message
invariant-loop-message g l = IsFed l.calls
