use Rattle.std.proofs.Common.{true, false}
use Rattle.rpc_shared.proofs.session.PassLemmas.{adds_self}
use Rattle.live_client.specs.Driving.{is_saying}
use Rattle.live_client.specs.asks.Telling.{gone_on, said_all, unknown}
use Rattle.live_client.specs.Silent.{silent_rule}
use Rattle.live_client.proofs.TalkLemmas.{talks_said, talks_same, talks_unsaid}
use Rattle.live_client.proofs.driving.say_one.Goals as goal

pub returns-in-None-clause-adds : goal.returns-in-None-clause-adds
returns-in-None-clause-adds g c = adds_self silent_rule c.args.table.now is_saying c.args.pass.now c.requires.can.stands

pub returns-in-None-clause-talks : goal.returns-in-None-clause-talks
returns-in-None-clause-talks g c = λ opening far start upto items t.
    talks_same g.W.Errand.watches opening c.args.table.now c.args.call (g.W.Errand.did c.args.errand.now far start upto) (g.W.Errand.did c.next_out.new.self unknown start upto) items true false c.args.pass.now
    (λ cut events outs ended so. c.in-None.ensures.kept far start upto cut events outs ended so) t

pub returns-in-None-clause-none : goal.returns-in-None-clause-none
returns-in-None-clause-none g c = λ _ opening start upto items t.
    talks_same g.W.Errand.watches opening c.args.table.now c.args.call (g.W.Errand.did c.args.errand.now gone_on start upto) (g.W.Errand.did c.next_out.new.self said_all start upto) items true false c.args.pass.now
    (λ cut events outs ended so. c.in-None.ensures.none start upto cut events outs ended so) t

pub returns-in-Ok-clause-talks : goal.returns-in-Ok-clause-talks
returns-in-Ok-clause-talks g c = λ opening all start upto items t.
    talks_said g.W.Errand.watches opening c.args.table.now c.args.call (g.W.Errand.did c.args.errand.now all start upto) (g.W.Errand.did c.next_out.new.self unknown start upto) items c.in-Some.utterance
    c.args.pass.now c.utter.new.pass c.in-Some.ensures.completes (λ cut events outs ended so. c.in-Some.ensures.some all start upto cut events outs ended so) c.in-Ok.ensures.said t

pub returns-in-Err-clause-talks : goal.returns-in-Err-clause-talks
returns-in-Err-clause-talks g c = λ opening all start upto items t.
    talks_unsaid g.W.Errand.watches opening c.args.table.now c.args.call (g.W.Errand.did c.args.errand.now all start upto) (g.W.Errand.did c.next_out.new.self unknown start upto) items c.in-Some.utterance
    c.args.pass.now c.utter.new.pass c.in-Some.ensures.completes (λ cut events outs ended so. c.in-Some.ensures.some all start upto cut events outs ended so) c.in-Err.ensures.unsaid t
