use Rattle.std.proofs.Common.{◌≡◌, ◌∷◌, sym, ◌∙◌}
use Rattle.token_text.specs.Format.{letter as letter_of}
use Rattle.token_text.proofs.FormatLemmas.{counted_digits, number_parts}
use Rattle.token_text.proofs.format.read_conversion.Goals as goal

pub returns-in_err-count_digits-clause-only : goal.returns-in_err-count_digits-clause-only
returns-in_err-count_digits-clause-only c filled written rest h e =
    let found = counted_digits filled written rest h in
    let count = c.in_err-count_digits.ensures.count in
    rw c.from_residual.ensures (let f : ⊥ = cc in f)

pub returns-in_err-padding-clause-only : goal.returns-in_err-padding-clause-only
returns-in_err-padding-clause-only c filled written rest h e =
    let parts = number_parts c.args.text.now c.in_ok-count_digits.field-0 filled written rest h e c.in_ok-count_digits.ensures.count in
    rw c.from_residual-in_err-padding.ensures (c.in_err-padding.ensures.only filled h (c.split_at.ensures.front ∙ parts.0))

pub returns-in_err-notation-clause-only : goal.returns-in_err-notation-clause-only
returns-in_err-notation-clause-only c filled written rest h e =
    let parts = number_parts c.args.text.now c.in_ok-count_digits.field-0 filled written rest h e c.in_ok-count_digits.ensures.count in
    let same : c.in_ok-letter.letter.now ∷ c.in_ok-letter.rest.now ≡ letter_of written ∷ rest = sym c.in_ok-letter.ensures.cases.0 ∙ (c.split_at.ensures.back ∙ parts.1) in
    rw c.from_residual-in_err-notation.ensures (c.in_err-notation.ensures.only written (cc))

pub returns-clause-only : goal.returns-clause-only
returns-clause-only c filled written rest h e =
    let parts = number_parts c.args.text.now c.in_ok-count_digits.field-0 filled written rest h e c.in_ok-count_digits.ensures.count in
    let same : c.in_ok-letter.letter.now ∷ c.in_ok-letter.rest.now ≡ letter_of written ∷ rest = sym c.in_ok-letter.ensures.cases.0 ∙ (c.split_at.ensures.back ∙ parts.1) in
    (c.in_ok-padding.ensures.only filled h (c.split_at.ensures.front ∙ parts.0), c.in_ok-notation.ensures.only written (cc), cc)
