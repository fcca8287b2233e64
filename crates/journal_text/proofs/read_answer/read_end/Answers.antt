use Rattle.std.proofs.Common.{sym, ◌∙◌}
use Rattle.std.proofs.lemmas.Slice.Eq.{bytes_eq-Decides}
use Rattle.journal_text.proofs.AnswerLemmas.{dash_found, end_unread}
use Rattle.journal_text.proofs.read_answer.read_end.Goals as goal

pub returns-then-eq : goal.returns-then-eq
returns-then-eq c =
    dash_found c.args.text.now
    ((bytes_eq-Decides c.args.text.now c.as_slice.result.now).0 (sym c.if-eq.ensures) ∙ c.as_slice.ensures)

pub returns-in_default-2 : goal.returns-in_default-2
returns-in_default-2 c =
    end_unread c.args.text.now c.in-Some.payload.now c.in-Some.number c.in_ok-payload.field-0
    (λ dash. let e = (bytes_eq-Decides c.args.text.now c.as_slice.result.now).1 (dash ∙ sym c.as_slice.ensures) in cc
    (sym e ∙ sym c.if-eq.ensures))
    c.in-Some.ensures.only c.in_ok-payload.ensures c.in_default-2.is
