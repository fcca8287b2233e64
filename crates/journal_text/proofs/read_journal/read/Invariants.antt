use Rattle.std.proofs.Common.{length}
use Rattle.journal_text.proofs.JournalLemmas.{HasRead}
use Rattle.journal_text.proofs.read_journal.read.Given as goal

abbrev pub invariant-loop-line : goal.invariant-loop-line
invariant-loop-line l = HasRead l.text l.rest l.journal.entries

abbrev pub decreases-loop-line : goal.decreases-loop-line
decreases-loop-line l = length l.rest
