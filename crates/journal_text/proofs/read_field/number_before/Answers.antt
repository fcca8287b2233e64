use Rattle.journal_text.proofs.FieldLemmas.{number_split}
use Rattle.journal_text.proofs.read_field.number_before.Goals as goal

pub returns-in_err-number-2-clause-only : goal.returns-in_err-number-2-clause-only
returns-in_err-number-2-clause-only c n rest small is =
    let parts = c.in_ok-number.ensures.only _ _ (number_split c.args.text.now rest n c.args.separator small c.requires is) in
    absurd (cc (c.in_err-number-2.ensures.only n small parts.0))

pub returns-clause-only : goal.returns-clause-only
returns-clause-only c n rest small is =
    let parts = c.in_ok-number.ensures.only _ _ (number_split c.args.text.now rest n c.args.separator small c.requires is) in
    (cc (c.in_ok-number-2.ensures.only n small parts.0), parts.1)
