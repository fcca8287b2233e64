use Rattle.std.proofs.Common.{length}
use Rattle.task_core.proofs.Timing.{AreComing}
use Rattle.task_core.proofs.dispatcher.timing.come_all.Given as goal

-- some places are marked, and each task that still sleeps has its timer
abbrev pub invariant-timers : goal.invariant-timers
invariant-timers g l = AreComing l.now l.initial.places l.places l.timers

abbrev pub decreases-timers : goal.decreases-timers
decreases-timers g l = length l.timers.set.keys
