use Rattle.std.proofs.lemmas.Result.{IfOk-weaker}
use Rattle.token_text.proofs.lines.LineLemmas.{message_none}
use Rattle.token_text.proofs.lines.lines.read_message.Goals as goal

pub returns-in-Some-clause-none : goal.returns-in-Some-clause-none
returns-in-Some-clause-none c =
    IfOk-weaker c.hex_bytes.result _ _ (λ found only. message_none (λ v. v.items) c.args.line.now c.in-Some.digits.now found c.in-Some.ensures.some only) c.hex_bytes.ensures.only
