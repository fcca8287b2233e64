use Rattle.std.proofs.Common.{◌≡◌, Err, Some, None, ap, sym, ◌∙◌}
use Rattle.rpc_shared.proofs.session.PassLemmas.{adds_self}
use Rattle.live_client.specs.Driving.{is_saying, want_by}
use Rattle.live_client.specs.Silent.{silent_rule}
use Rattle.live_client.proofs.StepsOf.{calm_trans, can_on, halt_calm, long_speaks, say_full, say_kept, say_refused, say_speaks, want_full, want_halts, want_may}
use Rattle.live_client.proofs.stepping.say.Goals as goal

pub say-requires-clause-own : goal.say-requires-clause-own
say-requires-clause-own g c = c.requires.can.stands.own

pub say-requires-clause-can : goal.say-requires-clause-can
say-requires-clause-can g c = record { there = c.requires.can.there; short = sym c.is_long.ensures ∙ c.if-is_long.false }

pub returns-then-is_long-clause-said : goal.returns-then-is_long-clause-said
returns-then-is_long-clause-said g c =
    long_speaks c.args.table.now c.args.call c.args.pass.now c.args.out (sym c.is_long.ensures ∙ c.if-is_long.true) (adds_self silent_rule c.args.table.now is_saying c.args.pass.now c.requires.can.stands)

pub returns-in-Ok-clause-said : goal.returns-in-Ok-clause-said
returns-in-Ok-clause-said g c = say_speaks c.args.table.now c.args.call c.args.pass.now c.say.new.pass c.requires.can c.args.out c.say.result c.say.ensures.did c.in-Ok.is

pub halt-requires-clause-why : goal.halt-requires-clause-why
halt-requires-clause-why g c = want_halts c.in-Err.refused c.in-Some.why (sym c.want_of.ensures ∙ c.in-Some.is)

pub halt-requires-clause-full : goal.halt-requires-clause-full
halt-requires-clause-full g c = λ is.
    say_full c.args.table.now c.args.call c.args.pass.now c.say.new.pass c.requires.can c.args.out c.say.result c.say.ensures.did
    (c.in-Err.is ∙ ap Err (want_full c.in-Err.refused (sym c.want_of.ensures ∙ (c.in-Some.is ∙ ap Some is))))

pub returns-in-None-clause-said : goal.returns-in-None-clause-said
returns-in-None-clause-said g c =
    let none : want_by c.in-Err.refused ≡ None = sym c.want_of.ensures ∙ c.in-None.is in
    say_refused c.args.table.now c.args.call c.args.pass.now c.say.new.pass c.requires.can c.args.out c.say.result c.in-Err.refused c.say.ensures.did c.in-Err.is
    (λ full. absurd (cc (none, ap want_by full))) (λ short. absurd (cc (none, ap want_by short)))

pub returns-in-Some-clause-unsaid : goal.returns-in-Some-clause-unsaid
returns-in-Some-clause-unsaid g c =
    let r = c.args.table.now in
    let why = c.in-Some.why in
    let halts = want_halts c.in-Err.refused why (sym c.want_of.ensures ∙ c.in-Some.is) in
    let kept = say_kept r c.args.call c.args.pass.now c.say.new.pass c.requires.can c.args.out is_saying c.say.result c.in-Err.refused c.say.ensures.did c.in-Err.is in
    let may = want_may c.in-Err.refused why (sym c.want_of.ensures ∙ c.in-Some.is) in
    calm_trans r c.args.call is_saying c.args.pass.now c.say.new.pass c.halt.new.pass kept
    (halt_calm r c.args.call c.say.new.pass c.halt.new.pass (can_on r c.args.call is_saying c.args.pass.now c.say.new.pass c.requires.can kept.adds) why is_saying c.halt.ensures.did halts may
    (λ is. say_full r c.args.call c.args.pass.now c.say.new.pass c.requires.can c.args.out c.say.result c.say.ensures.did (c.in-Err.is ∙ ap Err (want_full c.in-Err.refused (sym c.want_of.ensures ∙ (c.in-Some.is ∙ ap Some is))))) (c.halt.ensures.adds is_saying may))
