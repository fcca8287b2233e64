use Rattle.std.proofs.Common.{arith, ap, not, string_bytes, sym, ◌∙◌}
use Rattle.std.proofs.lemmas.Bool.{false≢true}
use Rattle.std.proofs.lemmas.Slice.Eq.{bytes_eq-Decides}
use Rattle.pw_run.proofs.TrailingLemmas.{ends_so, not_false, other_otherwise}
use Rattle.pw_run.proofs.trailing.behind.Goals as goal

pub returns-then-ne-clause-none : goal.returns-then-ne-clause-none
returns-then-ne-clause-none c =
    other_otherwise c.args.name.now c.args.words.now _ c.index-words-at.result (omega (arith, c.if-words-lt2.false))
    (λ same.
    let equal = (bytes_eq-Decides c.as_str.result.now c.args.name.now).1 (c.as_str.ensures.value ∙ (ap string_bytes c.index-words-at.is ∙ same)) in
    false≢true (sym (ap not equal) ∙ (sym c.ne.ensures ∙ c.if-ne.true)))

pub returns-clause-some : goal.returns-clause-some
returns-clause-some c =
    let equal = (bytes_eq-Decides c.as_str.result.now c.args.name.now).0 (not_false _ (sym c.ne.ensures ∙ c.if-ne.false)) in
    ends_so c.args.name.now c.as_str-2.result.now c.args.words.now _ c.index-words-at.result c.index-words-at-2.result (omega (arith, c.if-words-lt2.false)) c.index-words-at.is c.index-words-at-2.is
    (sym c.as_str.ensures.value ∙ equal) (sym c.as_str-2.ensures.value)
