use Rattle.std.proofs.Common.{◌∙◌}
use Rattle.task_core.proofs.TimerLemmas.{key_differs}
use Rattle.task_core.proofs.timers.Timers.remove.Goals as goal

pub returns-in-Some-clause-others : goal.returns-in-Some-clause-others
returns-in-Some-clause-others c =
    λ a k differs had. c.remove.ensures.updates.2 (a, k) (key_differs c.in-Some.at c.args.key a k differs) ∙ had
