use Rattle.std.proofs.Common.{◌≤◌, true, false, sym, ◌∙◌, subst}
use Rattle.rpc_shared.proofs.session.PassLemmas.{adds_trans, adds_weaker}
use Rattle.live_client.specs.Driving.{Talks, is_cutting, is_saying, is_talking}
use Rattle.live_client.specs.asks.Telling.{gone_on, unknown}
use Rattle.live_client.specs.Silent.{silent_rule}
use Rattle.live_client.proofs.StepsOf.{can_on}
use Rattle.live_client.proofs.TalkLemmas.{talks_same, talks_weaker}
use Rattle.live_client.proofs.FeedLemmas.{on_err_with, on_ok_with}
use Rattle.live_client.proofs.WorkLemmas.{cut_talks, say_talks}
use Rattle.live_client.proofs.driver.speak.Goals as goal

pub cut_one-requires-clause-can : goal.cut_one-requires-clause-can
cut_one-requires-clause-can g c = can_on c.args.table.now c.args.call is_saying c.args.pass.now c.go_on.new.pass c.requires.can c.go_on.ensures.adds

pub say_one-requires-clause-can : goal.say_one-requires-clause-can
say_one-requires-clause-can g c = can_on c.args.table.now c.args.call is_cutting c.go_on.new.pass c.cut_one.new.pass (can_on c.args.table.now c.args.call is_saying c.args.pass.now c.go_on.new.pass c.requires.can c.go_on.ensures.adds) c.cut_one.ensures.adds

pub returns-in-Ok-clause-adds : goal.returns-in-Ok-clause-adds
returns-in-Ok-clause-adds g c =
    adds_trans silent_rule c.args.table.now is_talking c.args.pass.now c.cut_one.new.pass c.say_one.new.pass
    (adds_trans silent_rule c.args.table.now is_talking c.args.pass.now c.go_on.new.pass c.cut_one.new.pass
    (adds_weaker silent_rule c.args.table.now is_saying is_talking c.args.pass.now c.go_on.new.pass say_talks c.go_on.ensures.adds)
    (adds_weaker silent_rule c.args.table.now is_cutting is_talking c.go_on.new.pass c.cut_one.new.pass cut_talks c.cut_one.ensures.adds))
    (adds_weaker silent_rule c.args.table.now is_saying is_talking c.cut_one.new.pass c.say_one.new.pass say_talks c.say_one.ensures.adds)

pub returns-in-Ok-clause-talks : goal.returns-in-Ok-clause-talks
returns-in-Ok-clause-talks g c = on_ok_with _ c.say_one.result (λ is. λ opening all start items early t.
    subst (λ b. Talks g.W.Errand.watches opening (g.W.Errand.did c.say_one.new.errand unknown start (g.C.Clock.last c.go_on.new.clock)) c.args.table.now c.args.call b false items c.say_one.new.pass) is
    (c.say_one.ensures.talks opening gone_on start (g.C.Clock.last c.go_on.new.clock) items (c.cut_one.ensures.talks opening gone_on start (g.C.Clock.last c.go_on.new.clock) items (c.go_on.ensures.talks opening all false start items early t))))

pub returns-in-Ok-clause-none : goal.returns-in-Ok-clause-none
returns-in-Ok-clause-none g c = λ is opening all start items early t.
    c.say_one.ensures.none is opening start (g.C.Clock.last c.go_on.new.clock) items (c.cut_one.ensures.talks opening gone_on start (g.C.Clock.last c.go_on.new.clock) items (c.go_on.ensures.talks opening all false start items early t))

pub returns-in-Ok-clause-stopped : goal.returns-in-Ok-clause-stopped
returns-in-Ok-clause-stopped g c = on_err_with _ c.say_one.result (λ is. λ opening all start items early t.
    subst (λ b. Talks g.W.Errand.watches opening (g.W.Errand.did c.say_one.new.errand unknown start (g.C.Clock.last c.go_on.new.clock)) c.args.table.now c.args.call b false items c.say_one.new.pass) is
    (c.say_one.ensures.talks opening gone_on start (g.C.Clock.last c.go_on.new.clock) items (c.cut_one.ensures.talks opening gone_on start (g.C.Clock.last c.go_on.new.clock) items (c.go_on.ensures.talks opening all false start items early t))))

pub returns-in-Ok-clause-uncut : goal.returns-in-Ok-clause-uncut
returns-in-Ok-clause-uncut g c = c.say_one.ensures.uncut ∙ c.cut_one.ensures.uncut

pub returns-in-Ok-clause-fits : goal.returns-in-Ok-clause-fits
returns-in-Ok-clause-fits g c = c.say_one.ensures.fits c.args.bells.now (c.cut_one.ensures.fits c.args.bells.now c.go_on.ensures.fits)

pub returns-in-Ok-clause-past : goal.returns-in-Ok-clause-past
returns-in-Ok-clause-past g c = subst (λ n. n ≤ g.C.Clock.last c.go_on.new.clock) (sym (c.say_one.ensures.moment ∙ c.cut_one.ensures.moment)) c.go_on.ensures.past

pub returns-in-Err-clause-stopped : goal.returns-in-Err-clause-stopped
returns-in-Err-clause-stopped g c = λ opening all start items early t.
    let last = g.C.Clock.last c.go_on.new.clock in
    talks_weaker g.W.Errand.watches opening c.args.table.now c.args.call (g.W.Errand.did c.go_on.new.errand unknown start last) (g.W.Errand.did c.go_on.new.errand unknown start last) items true false c.go_on.new.pass
    (talks_same g.W.Errand.watches opening c.args.table.now c.args.call (g.W.Errand.did c.go_on.new.errand gone_on start last) (g.W.Errand.did c.go_on.new.errand unknown start last) items true false c.go_on.new.pass
    (λ cut events outs ended so. g.W.Errand.weaker c.go_on.new.errand gone_on start last cut events outs ended so) (c.go_on.ensures.talks opening all false start items early t))

pub returns-in-Err-clause-uncut : goal.returns-in-Err-clause-uncut
returns-in-Err-clause-uncut g c = c.in-Err.ensures.uncut c.requires.uncut

pub returns-in-Err-clause-adds : goal.returns-in-Err-clause-adds
returns-in-Err-clause-adds g c = adds_weaker silent_rule c.args.table.now is_saying is_talking c.args.pass.now c.go_on.new.pass say_talks c.go_on.ensures.adds
