use Rattle.journal_text.specs.Fields.{behind}
use Rattle.journal_text.proofs.AnswerLemmas.{all_read, item_read, item_unread}
use Rattle.journal_text.proofs.FieldLemmas.{behind_led}
use Rattle.journal_text.proofs.read_answer.read_items.Goals as goal

pub returns-in_default-2 : goal.returns-in_default-2
returns-in_default-2 c =
    item_unread (behind c.args.text) c.in-Some.text.now c.first_field.result.0.now (behind c.first_field.result.1)
    c.loop-rest.items c.in_ok-item.field-0 (rw c.in-Some.is at c.loop-rest.invariant) c.first_field.ensures
    (behind_led c.first_field.result.1) c.in_ok-item.ensures c.in_default-2.is

pub loop-rest-preserved : goal.loop-rest-preserved
loop-rest-preserved c =
    rw c.in_ok-push.ensures.ok
    (item_read (behind c.args.text) c.in-Some.text.now c.first_field.result.0.now (behind c.first_field.result.1)
    c.loop-rest.items c.in-Some-2.item c.in_ok-item.field-0 (rw c.in-Some.is at c.loop-rest.invariant) c.first_field.ensures
    (behind_led c.first_field.result.1) c.in_ok-item.ensures c.in-Some-2.is)

pub returns : goal.returns
returns c = all_read (behind c.args.text) c.loop-rest.items (rw c.in_default.is at c.loop-rest.invariant)
