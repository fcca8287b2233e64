use Rattle.std.proofs.Common.{◌≡◌, ◌+◌, ◌-◌, ℕ, List, [], arith, subst}
use Rattle.std.proofs.lemmas.Result.{err_from_is_err_and}
use Rattle.text_fields.specs.Lines.{lines_of}
use Rattle.token_text.specs.Book.{Entry}
use Rattle.token_text.specs.lines.Lines.{HasBadLine, IsPrinted, bad_message, then_messages}
use Rattle.token_text.proofs.lines.lines.print_lines.Goals as goal

pub returns-in_err-rest-clause-line : goal.returns-in_err-rest-clause-line
returns-in_err-rest-clause-line c number e =
    let p = err_from_is_err_and c.from_residual.result c.from_residual.ensures.1 in
    let r = c.in_err-rest.ensures.line number (cc) in
    let P : List Entry → Type 0 = λ book. HasBadLine book (lines_of c.args.text.now) (number - 1) in
    (r.0, subst P c.new-book.ensures r.1)

pub returns-in-Ok-clause-ok : goal.returns-in-Ok-clause-ok
returns-in-Ok-clause-ok c =
    let r = c.in-Ok.ensures.ok in
    let P : List Entry → Type 0 = λ book. IsPrinted book (lines_of c.args.text.now) r.0 in
    (r.0, subst P c.new-book.ensures (c.in_ok-rest.ensures.printed r.0 (then_messages c.read_formats.new.book (lines_of c.in_ok-rest.rest.now) r.0 r.1)), r.2)

pub returns-clause-line : goal.returns-clause-line
returns-clause-line c number e =
    let r = c.in-Err.ensures.line number e in
    let low = c.in_ok-rest.ensures.number.0 in
    let bad = c.in_ok-rest.ensures.bad r.0 (bad_message c.read_formats.new.book (lines_of c.in_ok-rest.rest.now) r.0 c.in_ok-rest.ensures.behind r.2) in
    let same : (c.in_ok-rest.number - 1) + r.0 ≡ number - 1 = omega (arith, r.1, low) in
    let P : List Entry → Type 0 = λ book. HasBadLine book (lines_of c.args.text.now) ((c.in_ok-rest.number - 1) + r.0) in
    let Q : ℕ → Type 0 = λ n. HasBadLine [] (lines_of c.args.text.now) n in
    (omega (arith, r.1, low), subst Q same (subst P c.new-book.ensures bad))
