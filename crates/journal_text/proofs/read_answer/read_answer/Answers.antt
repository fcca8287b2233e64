use Rattle.journal_text.specs.Fields.{behind}
use Rattle.journal_text.proofs.AnswerLemmas.{answer_read, answer_without_end, answer_without_items}
use Rattle.journal_text.proofs.FieldLemmas.{behind_led}
use Rattle.journal_text.proofs.read_answer.read_answer.Goals as goal

pub returns-in_default : goal.returns-in_default
returns-in_default c =
    answer_without_end c.args.text.now c.first_field.result.0.now (behind c.first_field.result.1) c.in_ok-end.field-0
    c.first_field.ensures (behind_led c.first_field.result.1) c.in_ok-end.ensures c.in_default.is

pub returns-in_default-2 : goal.returns-in_default-2
returns-in_default-2 c =
    answer_without_items c.args.text.now c.first_field.result.0.now (behind c.first_field.result.1) c.in_ok-items.field-0
    c.first_field.ensures (behind_led c.first_field.result.1) c.in_ok-items.ensures c.in_default-2.is

pub returns : goal.returns
returns c =
    answer_read c.args.text.now c.first_field.result.0.now (behind c.first_field.result.1) c.in-Some.end c.in-Some-2.items
    c.in_ok-end.field-0 c.in_ok-items.field-0 c.first_field.ensures (behind_led c.first_field.result.1) c.in_ok-end.ensures
    c.in-Some.is c.in_ok-items.ensures c.in-Some-2.is
