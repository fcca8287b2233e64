use Rattle.std.proofs.Common.{[], None, false, sym, subst, ◌∙◌}
use Rattle.live_client.specs.asks.Telling.{Tells, unknown}
use Rattle.live_client.specs.Told.{HasTold}
use Rattle.live_client.proofs.transfers.transfer.Goals as goal

pub run_live-requires-clause-fresh : goal.run_live-requires-clause-fresh
run_live-requires-clause-fresh g c κs within = λ start upto.
    let e = c.in_ok-errand.errand in
    let new = c.in_ok-errand.ensures in
    subst (λ x. Tells g.T.Task.polls x e.tasks e.ear e.short.value unknown start upto None [] [] None) (sym new.first)
    (subst (λ b. Tells g.T.Task.polls c.args.task e.tasks e.ear b unknown start upto None [] [] None) (sym new.whole)
    (subst (λ x. Tells g.T.Task.polls c.args.task e.tasks x false unknown start upto None [] [] None) (sym new.ear) (new.told start upto)))

pub returns-clause-told : goal.returns-clause-told
returns-clause-told g c =
    let e = c.run_live.new.errand in
    let run = c.in_ok-run.ensures in
    subst (λ x. HasTold c.args.method (λ all. Tells g.T.Task.polls x e.tasks e.ear e.short.value all (g.C.Clock.last c.args.clock.now) (g.C.Clock.last c.run_live.new.clock)) c.in_ok-run.run'.journal.entries)
    (run.origin ∙ c.in_ok-errand.ensures.first) run.told
