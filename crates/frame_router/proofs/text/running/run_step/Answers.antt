use Rattle.std.proofs.Common.{◌++◌, ap, sym, ◌∙◌}
use Rattle.std.specs.Prelude.{string_bytes}
use Rattle.std.proofs.lemmas.Result.{on_ok_weaker}
use Rattle.frame_router.specs.Fates.{other_side}
use Rattle.frame_router.specs.declared.text.line.Step.{Step}
use Rattle.frame_router.specs.text.Flows.{flow_from}
use Rattle.frame_router.specs.text.Printed.{step_lines}
use Rattle.frame_router.proofs.text.StepLemmas.{fed_step, drained_step, follows_from}
use Rattle.frame_router.proofs.text.running.run_step.Goals as goal

pub returns-in-Feed-clause-follows : goal.returns-in-Feed-clause-follows
returns-in-Feed-clause-follows c =
    let old = c.args.router.now in
    on_ok_weaker c.feed_all.result
    (λ fed flows both. fed_step old.routes old c.feed_all.new.router flows c.in-Feed.from c.as_slice.result.now c.in-Feed.bytes c.args.step.now c.in-Feed.is c.as_slice.ensures both
    c.feed_all.ensures.routes c.feed_all.ensures.across (fed (flow_from c.in-Feed.from flows) (follows_from old.routes old flows c.in-Feed.from both)))
    c.feed_all.ensures.ok

pub returns-in-Drain-clause-follows : goal.returns-in-Drain-clause-follows
returns-in-Drain-clause-follows c =
    let old = c.args.router.now in
    let from = other_side c.in-Drain.to in
    on_ok_weaker c.drain.result
    (λ drains flows both. drained_step old.routes old c.drain.new.router flows c.in-Drain.to c.in-Drain.count c.args.step.now c.in-Drain.is both
    c.drain.ensures.routes c.drain.ensures.across (drains (flow_from from flows) (follows_from old.routes old flows from both)))
    c.drain.ensures.follows

pub returns-in-Drain-clause-told : goal.returns-in-Drain-clause-told
returns-in-Drain-clause-told c =
    let old = c.args.router.now in
    let from = other_side c.in-Drain.to in
    on_ok_weaker c.drain.result
    (λ tells flows both.
    let told = tells (flow_from from flows) (follows_from old.routes old flows from both) in
    told ∙ ap (λ (step : Step). string_bytes c.args.out.now ++ step_lines step flows) (sym c.in-Drain.is))
    c.drain.ensures.told
