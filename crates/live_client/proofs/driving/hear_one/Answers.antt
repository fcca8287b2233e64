use Rattle.std.proofs.Common.{◌≡◌, true, false, refl, sym, ◌∙◌, subst}
use Rattle.link_io.specs.declared.why.Why.TheVariants.{Memory}
use Rattle.live_client.specs.Driving.{EndsRun, is_running}
use Rattle.live_client.specs.asks.Telling.{said_all, when_over}
use Rattle.live_client.proofs.FeedLemmas.{of_err, of_ok}
use Rattle.live_client.proofs.StepsOf.{halt_calm}
use Rattle.live_client.proofs.TalkLemmas.{far_weaker, hears_far, over_uncut, run_uncancelled, talks_calm, talks_heard}
use Rattle.live_client.proofs.driving.hear_one.Given.{Over}
use Rattle.live_client.proofs.driving.hear_one.Goals as goal

pub returns-then-is_err-clause-adds : goal.returns-then-is_err-clause-adds
returns-then-is_err-clause-adds g c = c.halt.ensures.adds is_running refl

pub returns-then-is_err-clause-talks : goal.returns-then-is_err-clause-talks
returns-then-is_err-clause-talks g c = λ opening over start upto items t.
    let kept = of_err c.answer.result (sym c.is_err.ensures.value ∙ c.if-is_err.true) c.answer.ensures.kept in
    talks_calm g.W.Errand.watches opening c.args.table.now c.args.call (g.W.Errand.did c.args.errand.now said_all start upto) (g.W.Errand.did c.answer.new.errand (when_over over) start upto) items true over is_running
    c.args.pass.now c.halt.new.pass run_uncancelled
    (halt_calm c.args.table.now c.args.call c.args.pass.now c.halt.new.pass c.requires.can Memory is_running c.halt.ensures.did refl refl (λ is. absurd (cc is)) (c.halt.ensures.adds is_running refl))
    (λ cut events outs ended so.
    far_weaker (λ far. g.W.Errand.did c.answer.new.errand far start upto) (λ cut events outs ended. g.W.Errand.weaker c.answer.new.errand said_all start upto cut events outs ended) over cut events outs ended
    (kept said_all start upto cut events outs ended so)) t

pub returns-then-is_err-clause-over : goal.returns-then-is_err-clause-over
returns-then-is_err-clause-over g c = λ opening start upto items t.
    of_err c.answer.result (sym c.is_err.ensures.value ∙ c.if-is_err.true) c.answer.ensures.uncut

ends_of_it : (g : Over) (c : goal.After-end_run g) → EndsRun c.args.table.now c.args.call c.args.running.run.event c.args.pass.now c.end_run.new.pass
ends_of_it g c = subst (λ run. EndsRun c.args.table.now c.args.call run.event c.args.pass.now c.end_run.new.pass) c.answer.ensures.run.0 c.end_run.ensures.ends

pub returns-clause-adds : goal.returns-clause-adds
returns-clause-adds g c = (ends_of_it g c).adds

pub returns-clause-talks : goal.returns-clause-talks
returns-clause-talks g c = λ opening over start upto items t.
    let heard = of_ok c.answer.result (sym c.is_err.ensures.value ∙ c.if-is_err.false) c.answer.ensures.heard in
    talks_heard g.W.Errand.watches opening c.args.table.now c.args.call (g.W.Errand.did c.args.errand.now said_all start upto) (g.W.Errand.did c.answer.new.errand (when_over over) start upto) items
    (g.W.Errand.cuts c.answer.new.errand ≡ false) over c.args.running.run.event c.args.pass.now c.end_run.new.pass (ends_of_it g c)
    (hears_far (g.W.Errand.did c.args.errand.now said_all start upto) (λ far. g.W.Errand.did c.answer.new.errand far start upto) (g.W.Errand.cuts c.answer.new.errand ≡ false) c.args.running.run.event
    (λ cut events outs ended. heard start upto cut events outs ended) over) true t

pub returns-clause-over : goal.returns-clause-over
returns-clause-over g c = λ opening start upto items t _.
    let heard = of_ok c.answer.result (sym c.is_err.ensures.value ∙ c.if-is_err.false) c.answer.ensures.heard in
    over_uncut g.W.Errand.watches opening c.args.table.now c.args.call (g.W.Errand.did c.args.errand.now said_all start upto) (g.W.Errand.did c.answer.new.errand said_all start upto) items
    (g.W.Errand.cuts c.answer.new.errand ≡ false) true c.args.running.run.event c.args.pass.now c.end_run.new.pass (ends_of_it g c)
    (hears_far (g.W.Errand.did c.args.errand.now said_all start upto) (λ far. g.W.Errand.did c.answer.new.errand far start upto) (g.W.Errand.cuts c.answer.new.errand ≡ false) c.args.running.run.event
    (λ cut events outs ended. heard start upto cut events outs ended) true) true refl t
