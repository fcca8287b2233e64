use Rattle.link_script.proofs.text.FieldLemmas.{number_split}
use Rattle.link_script.proofs.text.fields.number_field.Goals as goal

pub returns-in_err-number-2-clause-only : goal.returns-in_err-number-2-clause-only
returns-in_err-number-2-clause-only c n rest small is =
    let parts = c.in_ok-number.ensures.only _ rest (number_split c.args.text.now rest n small is) in
    let e = c.in_err-number-2.ensures.only n small parts.0 in
    absurd (cc e)

pub returns-clause-only : goal.returns-clause-only
returns-clause-only c n rest small is =
    let parts = c.in_ok-number.ensures.only _ rest (number_split c.args.text.now rest n small is) in
    let e = c.in_ok-number-2.ensures.only n small parts.0 in
    (cc e, parts.1)
