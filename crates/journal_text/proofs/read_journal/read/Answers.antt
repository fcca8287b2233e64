use Rattle.journal_text.proofs.JournalLemmas.{line_read, line_unread, no_journal}
use Rattle.journal_text.proofs.read_journal.read.Goals as goal

pub returns-in_default-2-clause-only : goal.returns-in_default-2-clause-only
returns-in_default-2-clause-only c =
    no_journal c.args.text.now c.loop-line.rest.now c.in-Some-first_line.line.now c.in-Some-first_line.more.now
    c.loop-line.journal.entries c.in_ok-entry.field-0 c.loop-line.invariant c.in-Some-first_line.ensures.some
    c.in_ok-entry.ensures c.in_default-2.is

pub returns-in_default-2-clause-bad : goal.returns-in_default-2-clause-bad
returns-in_default-2-clause-bad c =
    rw c.len.ensures.len
    (line_unread c.args.text.now c.loop-line.rest.now c.in-Some-first_line.line.now c.in-Some-first_line.more.now
    c.loop-line.journal.entries c.in_ok-entry.field-0 c.loop-line.invariant c.in-Some-first_line.ensures.some
    c.in_ok-entry.ensures c.in_default-2.is)

pub loop-line-preserved : goal.loop-line-preserved
loop-line-preserved c =
    rw (c.push.ensures.entries, c.in_ok-reserve.ensures.entries)
    (line_read c.args.text.now c.loop-line.rest.now c.in-Some-first_line.line.now c.in-Some-first_line.more.now
    c.loop-line.journal.entries c.in-Some-2.entry c.in_ok-entry.field-0 c.loop-line.invariant c.in-Some-first_line.ensures.some
    c.in_ok-entry.ensures c.in-Some-2.is)
