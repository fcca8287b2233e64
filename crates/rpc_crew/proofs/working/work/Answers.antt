use Rattle.turn_cell.proofs.Calls.{same_self, same_trans}
use Rattle.rpc_shared.proofs.session.PassLemmas.{worker_after}
use Rattle.rpc_crew.proofs.working.work.Goals as goal

pub loop-init : goal.loop-init
loop-init g c = record { worker = c.requires; same = same_self c.args.pass }

pub loop-preserved : goal.loop-preserved
loop-preserved g c = record {
  worker = worker_after g.H.Handler.rule c.args.shared.now c.loop.pass c.work_once.new.pass c.loop.invariant.worker c.work_once.ensures;
  same = same_trans c.args.pass c.loop.pass c.work_once.new.pass c.loop.invariant.same c.work_once.ensures.same;
}

pub returns-then-not-work_once-clause-worker : goal.returns-then-not-work_once-clause-worker
returns-then-not-work_once-clause-worker g c = worker_after g.H.Handler.rule c.args.shared.now c.loop.pass c.work_once.new.pass c.loop.invariant.worker c.work_once.ensures

pub returns-then-not-work_once-clause-same : goal.returns-then-not-work_once-clause-same
returns-then-not-work_once-clause-same g c = same_trans c.args.pass c.loop.pass c.work_once.new.pass c.loop.invariant.same c.work_once.ensures.same
