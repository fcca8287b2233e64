use Rattle.std.proofs.Common.{true, Ok, subst, ◌∙◌}
use Rattle.rpc_client.specs.Settling.{Lists}
use Rattle.rpc_client.proofs.SettlingLemmas.{fewer_left, handed_more}
use Rattle.rpc_client.proofs.settling.work_until_idle.Goals as goal

pub runs-smaller : goal.runs-smaller
runs-smaller g c =
    let rule = g.H.Handler.rule in
    let new = c.work_into.new in
    let step : Lists rule c.runs.client.serving c.runs.handed.items (Ok true) new.client.serving new.handed.items =
    subst (λ b. Lists rule c.runs.client.serving c.runs.handed.items (Ok b) new.client.serving new.handed.items) c.in-Ok-true.field-0-test c.in-Ok-true.ensures.lists in
    fewer_left rule c.runs.client.serving new.client.serving step.0 step.1

pub runs-preserved : goal.runs-preserved
runs-preserved g c =
    let rule = g.H.Handler.rule in
    let new = c.work_into.new in
    let step : Lists rule c.runs.client.serving c.runs.handed.items (Ok true) new.client.serving new.handed.items =
    subst (λ b. Lists rule c.runs.client.serving c.runs.handed.items (Ok b) new.client.serving new.handed.items) c.in-Ok-true.field-0-test c.in-Ok-true.ensures.lists in
    record {
      so = handed_more rule c.args.client.now.serving c.args.handed.now.items c.runs.client.serving c.runs.handed.items new.client.serving new.handed.items c.runs.invariant.so step;
      listener = c.in-Ok-true.ensures.listener ∙ c.runs.invariant.listener;
      fed = λ bytes fed. c.in-Ok-true.ensures.fed bytes (c.runs.invariant.fed bytes fed);
    }
