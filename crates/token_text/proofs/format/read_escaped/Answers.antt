use Rattle.std.proofs.Common.{◌∷◌, ap, sym, ◌∙◌}
use Rattle.token_text.specs.Format.{percent}
use Rattle.token_text.proofs.FormatLemmas.{escaped_percent, escaped_text}
use Rattle.token_text.proofs.format.read_escaped.Goals as goal

pub returns-in-37-clause-only : goal.returns-in-37-clause-only
returns-in-37-clause-only c p rest h e =
    let behind = c.in_ok-letter.behind.now in
    escaped_percent p behind rest h
    (ap (λ b. percent ∷ b ∷ behind) (sym c.in-37.is) ∙ (ap (λ l. percent ∷ l) (sym c.in_ok-letter.ensures.cases.0) ∙ e))

pub returns-in-115-clause-only : goal.returns-in-115-clause-only
returns-in-115-clause-only c p rest h e =
    let behind = c.in_ok-letter.behind.now in
    escaped_text p behind rest h
    (ap (λ b. percent ∷ b ∷ behind) (sym c.in-115.is) ∙ (ap (λ l. percent ∷ l) (sym c.in_ok-letter.ensures.cases.0) ∙ e))
