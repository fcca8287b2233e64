use Rattle.std.proofs.Common.{Some}
use Rattle.live_client.proofs.asks.CallLemmas.{called_cut}
use Rattle.live_client.proofs.asks.call.CallErrandErrand.cut.Goals as goal

pub returns-clause-did : goal.returns-clause-did
returns-clause-did c = λ is far start upto before events outs ended so. (Some c.args.status, called_cut c.args.self.now c.args.status is far start upto before events outs ended so)
