use Rattle.std.proofs.Common.{◌≡◌, ◌++◌, ℕ, ap, codes, subst, IsNone, ◌∙◌}
use Rattle.std.specs.Fmt.{decimal}
use Rattle.std.specs.Int.{to_be_bytes, w32}
use Rattle.std.proofs.lemmas.Result.{on_ok_weaker}
use Rattle.hex.specs.Hex.{encode_lower}
use Rattle.token_text.specs.Book.{format_of, token_of}
use Rattle.token_text.specs.Printing.{text_of}
use Rattle.token_text.specs.lines.Lines.{has_text, is_short, is_unknown, is_wrong}
use Rattle.token_text.proofs.lines.answer.push_answer.Goals as goal

pub returns-in-Ok-clause-ok : goal.returns-in-Ok-clause-ok
returns-in-Ok-clause-ok c =
    let r = c.in-Ok.ensures.ok in
    (text_of r.0.parts r.1, has_text c.args.book.now c.args.message.now r.0 r.1 r.2, r.3)

pub returns-in-Err-Short-clause-ok : goal.returns-in-Err-Short-clause-ok
returns-in-Err-Short-clause-ok c =
    let few = c.in-Err-Short.ensures.short.0 (cc) in
    on_ok_weaker c.push_both.result (λ e. (codes "? short", is_short c.args.book.now c.args.message.now few, e ∙ ap (λ l. l ++ codes "? short") c.in-Err-Short.ensures.err)) c.push_both.ensures.ok

pub returns-in_ok-digits-in-Err-Unknown-clause-ok : goal.returns-in_ok-digits-in-Err-Unknown-clause-ok
returns-in_ok-digits-in-Err-Unknown-clause-ok c =
    let r = c.in-Err-Unknown.ensures.unknown c.in-Err-Unknown.token (cc) in
    let P : ℕ → Type 0 = λ t. IsNone (format_of c.args.book.now t) in
    let none = subst P r.1 r.2 in
    let told = codes "? unknown " ++ encode_lower (to_be_bytes w32 (token_of c.args.message.now)) in
    let same : c.as_bytes.result.now ≡ encode_lower (to_be_bytes w32 (token_of c.args.message.now)) =
    c.as_bytes.ensures.value ∙ (c.in_ok-digits-in-Err-Unknown.ensures ∙ ap encode_lower (c.to_be_bytes.ensures ∙ ap (to_be_bytes w32) r.1)) in
    on_ok_weaker c.push_both-in-Err-Unknown.result
    (λ e. (
      told,
      is_unknown c.args.book.now c.args.message.now r.0 none,
      e ∙ (ap (λ l. l ++ (codes "? unknown " ++ c.as_bytes.result.now)) c.in-Err-Unknown.ensures.err ∙ ap (λ l. c.args.out.now.items ++ (codes "? unknown " ++ l)) same),
    ))
    c.push_both-in-Err-Unknown.ensures.ok

pub returns-in_ok-digits-in-Err-Wrong-clause-ok : goal.returns-in_ok-digits-in-Err-Wrong-clause-ok
returns-in_ok-digits-in-Err-Wrong-clause-ok c =
    let r = c.in-Err-Wrong.ensures.wrong c.in-Err-Wrong.at (cc) in
    let told = codes "? wrong " ++ decimal c.in-Err-Wrong.at in
    let same : c.as_bytes-in-Err-Wrong.result.now ≡ decimal c.in-Err-Wrong.at = c.as_bytes-in-Err-Wrong.ensures.value ∙ c.in_ok-digits-in-Err-Wrong.ensures.ok in
    on_ok_weaker c.push_both-in-Err-Wrong.result
    (λ e. (
      told,
      is_wrong c.args.book.now c.args.message.now r.0 c.in-Err-Wrong.at r.1 r.2,
      e ∙ (ap (λ l. l ++ (codes "? wrong " ++ c.as_bytes-in-Err-Wrong.result.now)) c.in-Err-Wrong.ensures.err ∙ ap (λ l. c.args.out.now.items ++ (codes "? wrong " ++ l)) same),
    ))
    c.push_both-in-Err-Wrong.ensures.ok
