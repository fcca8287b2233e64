use Rattle.std.proofs.Common.{◌+◌, refl}
use Rattle.journal_text.proofs.VerdictLemmas.{lines_count, only_faulty, only_legal, only_no_journal}
use Rattle.journal_text.proofs.judge.judge_text.Goals as goal

pub returns-in-Err-clause-only : goal.returns-in-Err-clause-only
returns-in-Err-clause-only c set is =
    only_no_journal set c.args.text.now c.in-Err.bad.line (rw c.in-Err.is at c.in_ok-journal.ensures.bad)

pub returns-in-Some-clause-only : goal.returns-in-Some-clause-only
returns-in-Some-clause-only c set is =
    let first = rw c.in-Some.is at c.in_ok-fault.ensures.fault in
    only_faulty set c.args.text.now c.in-Ok.journal.entries c.in-Some.fault
    (rw c.in-Ok.is at c.in_ok-journal.ensures.journal)
    (λ others says. rw c.in-Ok.is at (c.in_ok-journal.ensures.only others says))
    (first set is)

pub returns-clause-verdict : goal.returns-clause-verdict
returns-clause-verdict c set is =
    let says = rw c.in-Ok.is at c.in_ok-journal.ensures.journal in
    record {
      entries = c.in-Ok.journal.entries;
      says = says;
      lawful = (c.in_ok-fault.ensures.lawful set is).0 (rw c.in-None.is refl);
      count = rw c.len.ensures.len (lines_count c.args.text.now c.in-Ok.journal.entries says);
    }

pub returns-clause-only : goal.returns-clause-only
returns-clause-only c set is =
    let says = rw c.in-Ok.is at c.in_ok-journal.ensures.journal in
    only_legal set c.args.text.now c.in-Ok.journal.entries (c.len.result + 1) says
    (λ others so. rw c.in-Ok.is at (c.in_ok-journal.ensures.only others so))
    ((c.in_ok-fault.ensures.lawful set is).0 (rw c.in-None.is refl))
    (rw c.len.ensures.len (lines_count c.args.text.now c.in-Ok.journal.entries says))
