use Rattle.live_client.proofs.asks.CallLemmas.{called_kept, enough_kept, hears}
use Rattle.live_client.proofs.asks.TellLemmas.{on_err_map, on_ok_map}
use Rattle.live_client.proofs.asks.call.CallErrandErrand.hear.Goals as goal

pub returns-clause-heard : goal.returns-clause-heard
returns-clause-heard c =
    on_ok_map c.take.result
    (λ heard. λ start upto cut events outs ended so.
    hears c.args.self.now c.take.new.self start upto cut events outs ended c.args.event c.requires.listens heard c.take.ensures.stays so)
    c.take.ensures.heard

pub returns-clause-kept : goal.returns-clause-kept
returns-clause-kept c =
    on_err_map c.take.result
    (λ kept. λ far start upto cut events outs ended so. called_kept c.args.self.now c.take.new.self kept c.take.ensures.stays far start upto cut events outs ended so)
    c.take.ensures.kept

pub returns-clause-uncut : goal.returns-clause-uncut
returns-clause-uncut c =
    on_err_map c.take.result (λ kept. enough_kept c.args.self.now c.take.new.self kept c.take.ensures.stays) c.take.ensures.kept
