use Rattle.std.proofs.Common.{length}
use Rattle.journal_text.specs.Fields.{behind}
use Rattle.journal_text.proofs.AnswerLemmas.{HasRead}
use Rattle.journal_text.proofs.read_answer.read_items.Given as goal

abbrev pub invariant-loop-rest : goal.invariant-loop-rest
invariant-loop-rest l = HasRead (behind l.fn.text) (behind l.rest) l.items

abbrev pub decreases-loop-rest : goal.decreases-loop-rest
decreases-loop-rest l = length (behind l.rest)
