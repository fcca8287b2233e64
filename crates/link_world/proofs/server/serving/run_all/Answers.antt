use Rattle.std.proofs.Common.{Ok, subst}
use Rattle.rpc_schedule.specs.Serving.{Works}
use Rattle.rpc_schedule.proofs.LoopLemmas.{runs_all, runs_on_more}
use Rattle.link_world.proofs.server.serving.run_all.Goals as goal

pub runs-preserved : goal.runs-preserved
runs-preserved g c =
    let seen = g.T.Serves.seen in
    record {
      on = runs_on_more g.T.Serves.rule (seen c.args.server.now) (seen c.runs.server) (seen c.work.new.self) c.runs.invariant.on
          (subst (λ b. Works g.T.Serves.rule (seen c.runs.server) (Ok b) (seen c.work.new.self)) c.in-Ok-true.field-0-test c.in-Ok-true.ensures.step);
      fed = λ s stands. c.in-Ok-true.ensures.fed s (c.runs.invariant.fed s stands);
    }

pub returns-in-Ok-false-clause-ok : goal.returns-in-Ok-false-clause-ok
returns-in-Ok-false-clause-ok g c =
    let seen = g.T.Serves.seen in
    runs_all g.T.Serves.rule (seen c.args.server.now) (seen c.runs.server) (seen c.work.new.self) c.runs.invariant.on
    (subst (λ b. Works g.T.Serves.rule (seen c.runs.server) (Ok b) (seen c.work.new.self)) c.in-Ok-false.field-0-test c.in-Ok-false.ensures.step)
