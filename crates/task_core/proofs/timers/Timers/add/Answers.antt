use Rattle.std.proofs.Common.{◌∙◌}
use Rattle.task_core.proofs.TimerLemmas.{key_differs}
use Rattle.task_core.proofs.timers.Timers.add.Goals as goal

pub returns-clause-others : goal.returns-clause-others
returns-clause-others c =
    λ a k differs had. c.in_ok-insert.ensures.updates.2 (a, k) (key_differs c.args.at c.args.key a k differs) ∙ had
