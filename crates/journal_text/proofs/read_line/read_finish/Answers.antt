use Rattle.journal_text.proofs.LineLemmas.{finish_read, finish_unread}
use Rattle.journal_text.proofs.read_line.read_finish.Goals as goal

pub returns-in_default-2 : goal.returns-in_default-2
returns-in_default-2 c =
    finish_unread c.args.text.now c.in-Some.answer.now c.in-Some.call c.in_ok-answer.field-0 c.in-Some.ensures.only
    c.in_ok-answer.ensures c.in_default-2.is

pub returns : goal.returns
returns c =
    finish_read c.args.text.now c.in-Some.answer.now c.in-Some.call c.in-Some-2.answer c.in_ok-answer.field-0
    c.in-Some.ensures.some c.in-Some.ensures.fits c.in-Some.ensures.only c.in_ok-answer.ensures c.in-Some-2.is
