use Rattle.std.proofs.Common.{ap, ◌++◌, ◌∙◌}
use Rattle.std.specs.Option.{option_to_list}
use Rattle.live_client.specs.asks.Telling.{gone_on}
use Rattle.live_client.proofs.asks.TellLemmas.{tells_idle, tells_none, tells_some}
use Rattle.live_client.proofs.asks.transfer.TaskErrandErrand.next_out.Goals as goal

pub returns-in-Some-clause-some : goal.returns-in-Some-clause-some
returns-in-Some-clause-some g c = λ all start upto cut events outs ended so.
    let old = c.args.self.now in
    tells_some g.T.Task.polls old.first.value old.tasks c.take_out.new.self old.ear old.short.value all start upto cut events outs ended c.in-Some.field-0-0 c.in-Some.out
    (c.take_out.ensures.first ∙ ap (λ o. option_to_list o ++ c.take_out.new.self.outs) c.in-Some.is) c.take_out.ensures.takes so

pub returns-in-None-clause-none : goal.returns-in-None-clause-none
returns-in-None-clause-none g c = λ start upto cut events outs ended so.
    let old = c.args.self.now in
    tells_none g.T.Task.polls old.first.value old.tasks c.take_out.new.self old.ear old.short.value gone_on start upto cut events outs ended
    (c.take_out.ensures.first ∙ ap (λ o. option_to_list o ++ c.take_out.new.self.outs) c.in-None.is) c.take_out.ensures.takes so

pub returns-in-None-clause-kept : goal.returns-in-None-clause-kept
returns-in-None-clause-kept g c = λ all start upto cut events outs ended so.
    let old = c.args.self.now in
    tells_idle g.T.Task.polls old.first.value old.tasks c.take_out.new.self old.ear old.short.value all start upto cut events outs ended
    (c.take_out.ensures.first ∙ ap (λ o. option_to_list o ++ c.take_out.new.self.outs) c.in-None.is) c.take_out.ensures.takes so
