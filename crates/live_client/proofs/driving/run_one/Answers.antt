use Rattle.std.proofs.Common.{true}
use Rattle.rpc_shared.proofs.session.PassLemmas.{adds_self, adds_trans}
use Rattle.live_client.specs.Driving.{is_running}
use Rattle.live_client.specs.asks.Telling.{said_all, when_over}
use Rattle.live_client.specs.Silent.{silent_rule}
use Rattle.live_client.proofs.StepsOf.{can_on}
use Rattle.live_client.proofs.TalkLemmas.{far_weaker, not_heard, run_uncancelled, talks_calm, talks_same}
use Rattle.live_client.proofs.driving.run_one.Goals as goal

pub returns-then-not-listens-clause-adds : goal.returns-then-not-listens-clause-adds
returns-then-not-listens-clause-adds g c = adds_self silent_rule c.args.table.now is_running c.args.pass.now c.requires.can.stands

pub returns-then-not-listens-clause-talks : goal.returns-then-not-listens-clause-talks
returns-then-not-listens-clause-talks g c = λ opening over start upto items t.
    talks_same g.W.Errand.watches opening c.args.table.now c.args.call (g.W.Errand.did c.args.errand.now said_all start upto) (g.W.Errand.did c.args.errand.now (when_over over) start upto) items true over c.args.pass.now
    (far_weaker (λ far. g.W.Errand.did c.args.errand.now far start upto) (λ cut events outs ended. g.W.Errand.weaker c.args.errand.now said_all start upto cut events outs ended) over) t

pub returns-then-not-listens-clause-none : goal.returns-then-not-listens-clause-none
returns-then-not-listens-clause-none g c = λ _ opening over start upto items t. t

pub returns-in-Ok-None-clause-adds : goal.returns-in-Ok-None-clause-adds
returns-in-Ok-None-clause-adds g c = c.begin_run.ensures.calm.adds

pub returns-in-Ok-None-clause-talks : goal.returns-in-Ok-None-clause-talks
returns-in-Ok-None-clause-talks g c = λ opening over start upto items t.
    talks_calm g.W.Errand.watches opening c.args.table.now c.args.call (g.W.Errand.did c.args.errand.now said_all start upto) (g.W.Errand.did c.args.errand.now (when_over over) start upto) items true over is_running
    c.args.pass.now c.begin_run.new.pass run_uncancelled c.begin_run.ensures.calm (far_weaker (λ far. g.W.Errand.did c.args.errand.now far start upto) (λ cut events outs ended. g.W.Errand.weaker c.args.errand.now said_all start upto cut events outs ended) over) t

pub returns-in-Ok-None-clause-none : goal.returns-in-Ok-None-clause-none
returns-in-Ok-None-clause-none g c = λ _ opening over start upto items t.
    talks_calm g.W.Errand.watches opening c.args.table.now c.args.call (g.W.Errand.did c.args.errand.now said_all start upto) (g.W.Errand.did c.args.errand.now said_all start upto) items true over is_running
    c.args.pass.now c.begin_run.new.pass run_uncancelled c.begin_run.ensures.calm (λ cut events outs ended so. so) t

pub returns-in-Err-clause-adds : goal.returns-in-Err-clause-adds
returns-in-Err-clause-adds g c = c.begin_run.ensures.calm.adds

pub returns-in-Err-clause-talks : goal.returns-in-Err-clause-talks
returns-in-Err-clause-talks g c = λ opening over start upto items t.
    talks_calm g.W.Errand.watches opening c.args.table.now c.args.call (g.W.Errand.did c.args.errand.now said_all start upto) (g.W.Errand.did c.args.errand.now (when_over over) start upto) items true over is_running
    c.args.pass.now c.begin_run.new.pass run_uncancelled c.begin_run.ensures.calm (far_weaker (λ far. g.W.Errand.did c.args.errand.now far start upto) (λ cut events outs ended. g.W.Errand.weaker c.args.errand.now said_all start upto cut events outs ended) over) t

pub hear_one-requires-clause-can : goal.hear_one-requires-clause-can
hear_one-requires-clause-can g c = can_on c.args.table.now c.args.call is_running c.args.pass.now c.begin_run.new.pass c.requires.can c.begin_run.ensures.calm.adds

pub returns-in-Ok-Some-clause-adds : goal.returns-in-Ok-Some-clause-adds
returns-in-Ok-Some-clause-adds g c = adds_trans silent_rule c.args.table.now is_running c.args.pass.now c.begin_run.new.pass c.hear_one.new.pass c.begin_run.ensures.calm.adds c.hear_one.ensures.adds

pub returns-in-Ok-Some-clause-talks : goal.returns-in-Ok-Some-clause-talks
returns-in-Ok-Some-clause-talks g c = λ opening over start upto items t.
    c.hear_one.ensures.talks opening over start upto items (
    talks_calm g.W.Errand.watches opening c.args.table.now c.args.call (g.W.Errand.did c.args.errand.now said_all start upto) (g.W.Errand.did c.args.errand.now said_all start upto) items true over is_running
    c.args.pass.now c.begin_run.new.pass run_uncancelled c.begin_run.ensures.calm (λ cut events outs ended so. so) t)

pub returns-in-Ok-Some-clause-none : goal.returns-in-Ok-Some-clause-none
returns-in-Ok-Some-clause-none g c = λ is. absurd (not_heard c.hear_one.result c.hear_one.ensures.heard is)

pub returns-in-Ok-Some-clause-over : goal.returns-in-Ok-Some-clause-over
returns-in-Ok-Some-clause-over g c = λ opening start upto items t uncut.
    c.hear_one.ensures.over opening start upto items (
    talks_calm g.W.Errand.watches opening c.args.table.now c.args.call (g.W.Errand.did c.args.errand.now said_all start upto) (g.W.Errand.did c.args.errand.now said_all start upto) items true true is_running
    c.args.pass.now c.begin_run.new.pass run_uncancelled c.begin_run.ensures.calm (λ cut events outs ended so. so) t) uncut
