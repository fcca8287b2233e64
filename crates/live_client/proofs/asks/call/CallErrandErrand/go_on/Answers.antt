use Rattle.live_client.proofs.asks.CallLemmas.{goes_on}
use Rattle.live_client.proofs.asks.call.CallErrandErrand.go_on.Goals as goal

pub returns-clause-did : goal.returns-clause-did
returns-clause-did c = λ far start upto cut events outs ended early late so.
    goes_on c.args.self.now c.look.new.self c.args.now c.look.ensures c.requires.later far start upto cut events outs ended early late so
