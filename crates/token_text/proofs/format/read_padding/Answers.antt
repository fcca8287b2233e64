use Rattle.std.proofs.Common.{◌≡◌, ◌∷◌, ap, length, sym, ◌∙◌}
use Rattle.token_text.specs.declared.part.Padding.TheVariants as padding
use Rattle.token_text.proofs.FormatLemmas.{bare_width, empty_list, zeros_width}
use Rattle.token_text.proofs.format.read_padding.Goals as goal

pub returns-in_default-clause-only : goal.returns-in_default-clause-only
returns-in_default-clause-only c p h e =
    let none : length c.args.digits.now ≡ 0 = c.in_default.ensures.cases in
    bare_width p h (sym (empty_list c.args.digits.now none) ∙ e)

pub returns-in_err-read_width-clause-only : goal.returns-in_err-read_width-clause-only
returns-in_err-read_width-clause-only c p h e =
    let width = c.in-Some.width.now in
    let zeros = zeros_width p width h (ap (λ b. b ∷ width) (sym c.if-first-eq48.true) ∙ (sym c.in-Some.ensures.cases.0 ∙ e)) in
    rw c.from_residual.ensures (c.in_err-read_width.ensures.only zeros.0 zeros.2 zeros.3)

pub returns-then-first-eq48-clause-only : goal.returns-then-first-eq48-clause-only
returns-then-first-eq48-clause-only c p h e =
    let width = c.in-Some.width.now in
    let zeros = zeros_width p width h (ap (λ b. b ∷ width) (sym c.if-first-eq48.true) ∙ (sym c.in-Some.ensures.cases.0 ∙ e)) in
    ap (λ w. padding.Zeros w) (c.in_ok-read_width.ensures.only zeros.0 zeros.2 zeros.3) ∙ sym zeros.1
