use Rattle.std.proofs.Common.{[], ◌∷◌, subst, ◌∙◌}
use Rattle.task_core.specs.Log.{added}
use Rattle.task_core.specs.Tasks.{StandsFor}
use Rattle.live_client.proofs.asks.TellLemmas.{alone_new, told_new}
use Rattle.live_client.proofs.asks.transfer.TaskErrand.new.Goals as goal

pub returns-in-Ok-clause-there : goal.returns-in-Ok-clause-there
returns-in-Ok-clause-there g c =
    alone_new g.T.Task.polls c.args.task c.add.new.self
    (subst (λ key. StandsFor c.add.new.self (added key c.args.task ∷ [])) (c.in-Ok.ensures.key ∙ c.in_ok-tasks.ensures.first) (c.in-Ok.ensures.adds [] c.in_ok-tasks.ensures.stands))

pub returns-in-Ok-clause-told : goal.returns-in-Ok-clause-told
returns-in-Ok-clause-told g c =
    told_new g.T.Task.polls c.args.task c.add.new.self c.args.ear
    (subst (λ key. StandsFor c.add.new.self (added key c.args.task ∷ [])) (c.in-Ok.ensures.key ∙ c.in_ok-tasks.ensures.first) (c.in-Ok.ensures.adds [] c.in_ok-tasks.ensures.stands)) c.requires.new
