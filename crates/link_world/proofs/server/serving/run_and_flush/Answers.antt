use Rattle.rpc_schedule.proofs.LoopLemmas.{run_then_flush}
use Rattle.link_world.proofs.server.serving.run_and_flush.Goals as goal

pub returns-clause-ok : goal.returns-clause-ok
returns-clause-ok g c =
    let seen = g.T.Serves.seen in
    run_then_flush g.T.Serves.rule (seen c.args.server.now) (seen c.run_all.new.server) (seen c.flush_all.new.server) c.in-Ok.ensures.ok c.in_ok-flush_all.ensures.ok
