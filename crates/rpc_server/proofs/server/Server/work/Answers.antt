use Rattle.rpc_schedule.proofs.ends.FedLemmas.{works_heard}
use Rattle.rpc_server.proofs.server.Server.work.Goals as goal

pub returns-clause-fed : goal.returns-clause-fed
returns-clause-fed g c = λ bytes fed. record {
  listener = rw (c.work_once.ensures.listener) fed.listener;
  packets = works_heard g.M.H.Handler.rule _ c.args.self.now.serving c.work_once.new.self.serving c.work_once.result c.work_once.ensures.step fed.packets;
}
