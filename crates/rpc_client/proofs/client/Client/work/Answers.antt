use Rattle.rpc_client.proofs.WorkSteps.{works_on_heard}
use Rattle.rpc_client.proofs.client.Client.work.Goals as goal

pub returns-clause-fed : goal.returns-clause-fed
returns-clause-fed g c = λ bytes fed. record {
  listener = rw (c.work_once.ensures.listener) fed.listener;
  packets = works_on_heard g.H.Handler.rule _ c.args.self.now.serving c.work_once.new.self.serving c.work_once.result c.work_once.ensures.step fed.packets;
}
