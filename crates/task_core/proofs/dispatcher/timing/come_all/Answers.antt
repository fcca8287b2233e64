use Rattle.task_core.proofs.Timing.{coming_done, coming_timers}
use Rattle.task_core.proofs.dispatcher.timing.come_all.Goals as goal

pub returns-clause-timers : goal.returns-clause-timers
returns-clause-timers g c =
    coming_timers c.args.now c.args.places.now c.timers.places c.timers.timers c.take_come.new.self c.timers.invariant c.in_default.ensures.kept

pub returns-clause-come : goal.returns-clause-come
returns-clause-come g c =
    coming_done c.args.now c.args.places.now c.timers.places c.timers.timers c.take_come.new.self c.timers.invariant c.in_default.ensures.kept c.in_default.ensures.all
