use Rattle.std.proofs.Common.{◌≡◌, ◌≢◌, ◌/◌, ◌%◌, get_or, arith, ap, sym, ◌∙◌}
use Rattle.std.proofs.lemmas.List.{take_rest}
use Rattle.hdlc_frame.proofs.judge.read_number.Goals as goal
use Rattle.hdlc_frame.proofs.Numbers.{read_end, read_five, read_last, read_more}

pub returns-in_err-octet : goal.returns-in_err-octet
returns-in_err-octet c =
    rw c.from_residual.ensures
    (read_end c.args.octets.now c.loop-i.number c.loop-i.worth c.loop-i.i (c.in_err-octet.ensures.lookup.3) c.loop-i.invariant)

pub returns-then-octet-eq1 : goal.returns-then-octet-eq1
returns-then-octet-eq1 c =
    let octets = c.args.octets.now in
    let i = c.loop-i.i in
    let is : c.in_ok-octet.field-0.now ≡ get_or octets i 0 = c.in_ok-octet.ensures.lookup.3.1 0 in
    let group : c.from.result ≡ get_or octets i 0 / 2 = c.from.ensures ∙ ap (λ x. x / 2) is in
    let odd : get_or octets i 0 % 2 ≡ 1 = sym (ap (λ x. x % 2) is) ∙ c.if-octet-eq1.true in
    rw (group, take_rest)
    (read_last octets c.loop-i.number c.loop-i.worth i c.loop-i-test.true c.in_ok-octet.ensures.lookup.3.0 odd c.loop-i.invariant)

pub loop-i-preserved : goal.loop-i-preserved
loop-i-preserved c =
    let octets = c.args.octets.now in
    let i = c.loop-i.i in
    let is : c.in_ok-octet.field-0.now ≡ get_or octets i 0 = c.in_ok-octet.ensures.lookup.3.1 0 in
    let group : c.from.result ≡ get_or octets i 0 / 2 = c.from.ensures ∙ ap (λ x. x / 2) is in
    let even : get_or octets i 0 % 2 ≢ 1 = λ odd. c.if-octet-eq1.false (ap (λ x. x % 2) is ∙ odd) in
    rw group
    (read_more octets c.loop-i.number c.loop-i.worth i c.loop-i-test.true c.in_ok-octet.ensures.lookup.3.0
    (omega (arith, c.type_inv.octets i)) even c.loop-i.invariant)

pub returns : goal.returns
returns c = read_five c.args.octets.now c.loop-i.number c.loop-i.worth c.loop-i.i c.loop-i-test.false c.loop-i.invariant
