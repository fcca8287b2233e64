use Rattle.std.proofs.Common.{◌≡◌, ◌++◌, drop}
use Rattle.transfer_resume.specs.Plain.{left_words}
use Rattle.transfer_resume.proofs.plain.add_lefts.Given as goal

abbrev pub invariant-loop-id : goal.invariant-loop-id
invariant-loop-id l = l.words ++ left_words (drop l.id-index l.id-items) ≡ l.initial.words ++ left_words l.id-items
