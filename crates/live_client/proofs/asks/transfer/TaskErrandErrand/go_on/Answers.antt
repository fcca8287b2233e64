use Rattle.std.proofs.Common.{arith, is_err, sym, ap, ◌∙◌}
use Rattle.live_client.proofs.asks.TellLemmas.{tells_ran}
use Rattle.live_client.proofs.asks.transfer.TaskErrandErrand.go_on.Goals as goal

pub returns-in-Ok-clause-did : goal.returns-in-Ok-clause-did
returns-in-Ok-clause-did g c = λ all start upto cut events outs ended early late so.
    let old = c.args.self.now in
    tells_ran g.T.Task.polls old.first.value old.tasks c.advance.new.self c.run_with.new.self old.ear c.run_with.new.ear all start upto c.args.now 8 (omega arith) cut events outs ended c.run_with.result
    early late c.requires.later c.advance.ensures.advances c.run_with.ensures.ran old.short.value c.requires.whole so old.short.value (c.requires.whole ∙ sym (ap is_err c.in-Ok.is))

pub returns-in-Err-clause-did : goal.returns-in-Err-clause-did
returns-in-Err-clause-did g c = λ all start upto cut events outs ended early late so.
    let old = c.args.self.now in
    tells_ran g.T.Task.polls old.first.value old.tasks c.advance.new.self c.run_with.new.self old.ear c.run_with.new.ear all start upto c.args.now 8 (omega arith) cut events outs ended c.run_with.result
    early late c.requires.later c.advance.ensures.advances c.run_with.ensures.ran old.short.value c.requires.whole so c.of.result.value (c.of.ensures ∙ sym (ap is_err c.in-Err.is))
