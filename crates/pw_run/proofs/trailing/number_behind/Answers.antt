use Rattle.std.proofs.Common.{map, string_bytes, subst, sym, ◌∙◌}
use Rattle.pw_run.specs.Trailing.{IsUpTo}
use Rattle.pw_run.proofs.TrailingLemmas.{some_behind}
use Rattle.pw_run.proofs.trailing.number_behind.Goals as goal

pub returns-in-None-number_up_to-clause-only : goal.returns-in-None-number_up_to-clause-only
returns-in-None-number_up_to-clause-only c = λ front number is up other.
    let found = some_behind c.args.name.now c.in-Some.number.now (map string_bytes c.args.words.now) (map string_bytes c.in-Some.front.now) front number c.in-Some.ensures.some is other in
    absurd (cc (c.in-None-number_up_to.ensures.only found.n found.last_is (subst (IsUpTo c.args.most) found.number_is up)))

pub returns-in-Some-number_up_to-clause-only : goal.returns-in-Some-number_up_to-clause-only
returns-in-Some-number_up_to-clause-only c = λ front number is up other.
    let found = some_behind c.args.name.now c.in-Some.number.now (map string_bytes c.args.words.now) (map string_bytes c.in-Some.front.now) front number c.in-Some.ensures.some is other in
    (found.front_is, c.in-Some-number_up_to.ensures.only found.n found.last_is (subst (IsUpTo c.args.most) found.number_is up) ∙ sym found.number_is)
