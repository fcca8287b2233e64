use Rattle.std.proofs.Common.{◌≡◌, ◌++◌, drop}
use Rattle.transfer_resume.proofs.plain.add_numbers.Given as goal

abbrev pub invariant-loop-number : goal.invariant-loop-number
invariant-loop-number l = l.words ++ drop l.number-index l.numbers ≡ l.initial.words ++ l.numbers
