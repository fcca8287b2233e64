use Rattle.std.proofs.Common.{◌≡◌, ap, sym, ◌∙◌}
use Rattle.std.specs.Fmt.{decimal}
use Rattle.std.specs.Result.{result_ok}
use Rattle.std.proofs.lemmas.Fmt.{parse-decimal, IsAscii-decimal}
use Rattle.std.proofs.lemmas.Str.{IsUtf8-from_ascii}
use Rattle.text_fields.proofs.NumberTexts.{some_parsed, decimal_begins_plainly}
use Rattle.text_fields.proofs.numbers.number.Goals as goal

pub returns-then-not-begins_plainly-clause-only : goal.returns-then-not-begins_plainly-clause-only
returns-then-not-begins_plainly-clause-only c n small spelled =
    let plain = c.begins_plainly.ensures.1 (rw spelled (decimal_begins_plainly n small)) in
    cc (sym plain ∙ c.if-not-begins_plainly.true)

pub returns-in-Ok-clause-some : goal.returns-in-Ok-clause-some
returns-in-Ok-clause-some c =
    let parses = c.parse.ensures.value.0 in
    let text : c.in-Ok.digits.now ≡ c.args.text.now = c.in-Ok.ensures.cases.0 in
    rw c.ok.ensures.value (some_parsed c.args.text.now c.parse.result (c.begins_plainly.ensures.0 c.if-not-begins_plainly.false) (rw text at parses))

pub returns-in-Ok-clause-only : goal.returns-in-Ok-clause-only
returns-in-Ok-clause-only c n small spelled =
    let digits = c.in-Ok.ensures.cases.0 ∙ spelled in
    let parsed = parse-decimal 64 n c.in-Ok.digits.now c.parse.result small small digits c.parse.ensures.value.0 in
    c.ok.ensures.value ∙ ap result_ok parsed

pub returns-in-Err-clause-only : goal.returns-in-Err-clause-only
returns-in-Err-clause-only c n small spelled =
    absurd (c.in-Err.ensures.cases.0 (rw spelled (IsUtf8-from_ascii (decimal n) (IsAscii-decimal n small))))
