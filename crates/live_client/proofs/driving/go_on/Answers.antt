use Rattle.std.proofs.Common.{refl, sym, subst, true, false, arith, ◌≤◌}
use Rattle.link_io.specs.declared.why.Why.TheVariants.{Memory}
use Rattle.rpc_shared.proofs.session.PassLemmas.{adds_self}
use Rattle.live_client.specs.Driving.{Talks, is_saying}
use Rattle.live_client.specs.asks.Telling.{gone_on}
use Rattle.live_client.specs.Silent.{silent_rule}
use Rattle.live_client.proofs.StepsOf.{halt_calm}
use Rattle.live_client.proofs.TalkLemmas.{say_uncancelled, talks_calm, talks_on}
use Rattle.live_client.proofs.driving.go_on.Goals as goal

pub returns-then-is_err-clause-adds : goal.returns-then-is_err-clause-adds
returns-then-is_err-clause-adds g c = c.halt.ensures.adds is_saying refl

pub returns-then-is_err-clause-talks : goal.returns-then-is_err-clause-talks
returns-then-is_err-clause-talks g c = λ opening all over start items early t.
    let r = c.args.table.now in
    let last = g.C.Clock.last c.now-now.new.self in
    let now = c.now-now.result in
    let from : start ≤ now = omega (arith, early, c.now-now.ensures.later) in
    let did = g.W.Errand.did c.args.errand.now all start (g.C.Clock.last c.args.clock.now) in
    let at_now = talks_on g.W.Errand.watches opening r c.args.call did (g.W.Errand.did c.go_on.new.self gone_on start now) items true over c.args.pass.now
    (λ cut events outs ended so. c.go_on.ensures.did all start (g.C.Clock.last c.args.clock.now) cut events outs ended from c.now-now.ensures.later so) t in
    subst (λ n. Talks g.W.Errand.watches opening (g.W.Errand.did c.go_on.new.self gone_on start n) r c.args.call true false items c.halt.new.pass) (sym c.now-now.ensures.last)
    (talks_calm g.W.Errand.watches opening r c.args.call (g.W.Errand.did c.go_on.new.self gone_on start now) (g.W.Errand.did c.go_on.new.self gone_on start now) items true false is_saying
    c.args.pass.now c.halt.new.pass say_uncancelled
    (halt_calm r c.args.call c.args.pass.now c.halt.new.pass c.requires.can Memory is_saying c.halt.ensures.did refl refl (λ is. absurd (cc is)) (c.halt.ensures.adds is_saying refl))
    (λ cut events outs ended so. so) at_now)

pub returns-clause-adds : goal.returns-clause-adds
returns-clause-adds g c = adds_self silent_rule c.args.table.now is_saying c.args.pass.now c.requires.can.stands

pub returns-clause-talks : goal.returns-clause-talks
returns-clause-talks g c = λ opening all over start items early t.
    let now = c.now-now.result in
    let from : start ≤ now = omega (arith, early, c.now-now.ensures.later) in
    let at_now = talks_on g.W.Errand.watches opening c.args.table.now c.args.call (g.W.Errand.did c.args.errand.now all start (g.C.Clock.last c.args.clock.now)) (g.W.Errand.did c.go_on.new.self gone_on start now) items true over c.args.pass.now
    (λ cut events outs ended so. c.go_on.ensures.did all start (g.C.Clock.last c.args.clock.now) cut events outs ended from c.now-now.ensures.later so) t in
    subst (λ n. Talks g.W.Errand.watches opening (g.W.Errand.did c.go_on.new.self gone_on start n) c.args.table.now c.args.call true false items c.args.pass.now) (sym c.now-now.ensures.last) at_now
