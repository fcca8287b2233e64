use Rattle.std.proofs.lemmas.Result.{IfOk-weaker}
use Rattle.frame_router.proofs.text.ReadLemmas.{drain_found, feed_found, none_found}
use Rattle.frame_router.proofs.text.line.read_step.Goals as goal

pub returns-in-Some-clause-some : goal.returns-in-Some-clause-some
returns-in-Some-clause-some c =
    drain_found c.args.line.now c.in-Some.rest.now c.read_drain.result c.in-Some.ensures.some c.read_drain.ensures.some

pub returns-in-None-clause-some : goal.returns-in-None-clause-some
returns-in-None-clause-some c =
    IfOk-weaker c.read_feed.result _ _ (λ found is. feed_found c.args.line.now found is) c.read_feed.ensures.some

pub returns-in-None-clause-none : goal.returns-in-None-clause-none
returns-in-None-clause-none c =
    IfOk-weaker c.read_feed.result _ _ (λ found none. none_found c.args.line.now found c.in-None.ensures.only none) c.read_feed.ensures.none
