use Rattle.std.proofs.Common.{◌≤◌, arith}
use Rattle.task_core.proofs.TimerLemmas.{least_is_first}
use Rattle.task_core.proofs.timers.Timers.take_come.Goals as goal

pub returns-then-now-at-clause-all : goal.returns-then-now-at-clause-all
returns-then-now-at-clause-all c =
    λ a k had.
    let least : c.in_ok-at.field-0.now.0 ≤ a = least_is_first c.in_ok-at.field-0.now.0 c.in_ok-at.field-0.now.1 a k (c.in_ok-at.ensures.least (a, k) had) in
    omega (arith, c.if-now-at.true)
