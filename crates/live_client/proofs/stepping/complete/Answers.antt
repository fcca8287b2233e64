use Rattle.std.proofs.Common.{◌≡◌, Err, Some, None, ap, sym, ◌∙◌}
use Rattle.live_client.specs.Driving.{is_saying, want_by}
use Rattle.live_client.proofs.StepsOf.{calm_trans, can_on, done_full_journal, done_kept, done_refused, done_speaks, halt_calm, want_full, want_halts, want_may}
use Rattle.live_client.proofs.stepping.complete.Goals as goal

pub done-requires-clause-own : goal.done-requires-clause-own
done-requires-clause-own g c = c.requires.can.stands.own

pub done-requires-clause-can : goal.done-requires-clause-can
done-requires-clause-can g c = record { client = c.requires.can.client; there = c.requires.can.there }

pub returns-in-Ok-clause-said : goal.returns-in-Ok-clause-said
returns-in-Ok-clause-said g c = done_speaks c.args.table.now c.args.call c.args.pass.now c.done.new.pass c.requires.can c.done.result c.done.ensures.did c.in-Ok.is

pub halt-requires-clause-why : goal.halt-requires-clause-why
halt-requires-clause-why g c = want_halts c.in-Err.refused c.in-Some.why (sym c.want_of.ensures ∙ c.in-Some.is)

pub halt-requires-clause-full : goal.halt-requires-clause-full
halt-requires-clause-full g c = λ is.
    done_full_journal c.args.table.now c.args.call c.args.pass.now c.done.new.pass c.requires.can c.done.result c.done.ensures.did
    (c.in-Err.is ∙ ap Err (want_full c.in-Err.refused (sym c.want_of.ensures ∙ (c.in-Some.is ∙ ap Some is))))

pub returns-in-None-clause-said : goal.returns-in-None-clause-said
returns-in-None-clause-said g c =
    let none : want_by c.in-Err.refused ≡ None = sym c.want_of.ensures ∙ c.in-None.is in
    done_refused c.args.table.now c.args.call c.args.pass.now c.done.new.pass c.requires.can c.done.result c.in-Err.refused c.done.ensures.did c.in-Err.is
    (λ full. absurd (cc (none, ap want_by full))) (λ short. absurd (cc (none, ap want_by short)))

pub returns-in-Some-clause-unsaid : goal.returns-in-Some-clause-unsaid
returns-in-Some-clause-unsaid g c =
    let r = c.args.table.now in
    let why = c.in-Some.why in
    let halts = want_halts c.in-Err.refused why (sym c.want_of.ensures ∙ c.in-Some.is) in
    let kept = done_kept r c.args.call c.args.pass.now c.done.new.pass c.requires.can is_saying c.done.result c.in-Err.refused c.done.ensures.did c.in-Err.is in
    let may = want_may c.in-Err.refused why (sym c.want_of.ensures ∙ c.in-Some.is) in
    calm_trans r c.args.call is_saying c.args.pass.now c.done.new.pass c.halt.new.pass kept
    (halt_calm r c.args.call c.done.new.pass c.halt.new.pass (can_on r c.args.call is_saying c.args.pass.now c.done.new.pass c.requires.can kept.adds) why is_saying c.halt.ensures.did halts may
    (λ is. done_full_journal r c.args.call c.args.pass.now c.done.new.pass c.requires.can c.done.result c.done.ensures.did (c.in-Err.is ∙ ap Err (want_full c.in-Err.refused (sym c.want_of.ensures ∙ (c.in-Some.is ∙ ap Some is))))) (c.halt.ensures.adds is_saying may))
