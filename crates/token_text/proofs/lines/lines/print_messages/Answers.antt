use Rattle.std.proofs.Common.{◌≡◌, ◌+◌, ◌-◌, ◌++◌, ◌∷◌, [], ℕ, List, ap, append_assoc, arith, refl, subst, ◌∙◌}
use Rattle.text_fields.specs.Lines.{lines_of}
use Rattle.token_text.specs.lines.Lines.{IsAnswer}
use Rattle.token_text.proofs.lines.LineLemmas.{PrintsOn, prints_done, prints_more, prints_stray}
use Rattle.token_text.proofs.lines.lines.print_messages.Goals as goal

pub returns-in_default-2-clause-line : goal.returns-in_default-2-clause-line
returns-in_default-2-clause-line c number e =
    let lines = lines_of c.args.text.now in
    let more = lines_of c.in-Some.behind.now in
    let count = c.lines.number - c.args.first in
    let before = c.lines.invariant.printed in
    let P : List (List ℕ) → Type 0 = λ l. PrintsOn c.args.book.now lines l before.0 count in
    let prints = subst P c.in-Some.ensures.some before.2 in
    let none = rw c.in_default-2.is at c.in_ok-message.ensures.none in
    let told : number ≡ c.lines.number = cc in
    (count, omega (arith, told, c.lines.invariant.low), prints_stray c.args.book.now lines c.in-Some.line.now more before.0 count prints none)

pub lines-preserved : goal.lines-preserved
lines-preserved c =
    let lines = lines_of c.args.text.now in
    let more = lines_of c.in-Some.behind.now in
    let count = c.lines.number - c.args.first in
    let before = c.lines.invariant.printed in
    let P : List (List ℕ) → Type 0 = λ l. PrintsOn c.args.book.now lines l before.0 count in
    let prints = subst P c.in-Some.ensures.some before.2 in
    let spelled = rw c.in-Some-2.is at c.in_ok-message.ensures.some in
    let line = c.in_ok-push_line.ensures.ok in
    let told = subst (λ l. IsAnswer c.args.book.now l line.0) c.deref.ensures.value line.1 in
    let step : c.lines.number + 1 - c.args.first ≡ count + 1 = omega (arith, c.lines.invariant.low) in
    record {
      printed = (
        before.0 ++ (line.0 ++ 10 ∷ []),
        line.2 ∙ (ap (λ l. l ++ (line.0 ++ 10 ∷ [])) before.1 ∙ append_assoc c.args.out.now.items before.0 (line.0 ++ 10 ∷ [])),
        prints_more c.args.book.now lines c.in-Some.line.now more before.0 c.in-Some-2.message.items line.0 count (c.lines.number + 1 - c.args.first) prints spelled told step,
      );
      low = omega (arith, c.lines.invariant.low);
      room = omega (arith, c.in-Some.ensures.shorter, c.lines.invariant.room);
    }

pub returns-clause-ok : goal.returns-clause-ok
returns-clause-ok c =
    let lines = lines_of c.args.text.now in
    let before = c.lines.invariant.printed in
    let none : lines_of c.lines.rest.now ≡ [] = ap lines_of (c.in_default.ensures.none.0 refl) in
    (before.0, prints_done c.args.book.now lines (lines_of c.lines.rest.now) before.0 (c.lines.number - c.args.first) before.2 none, before.1)
