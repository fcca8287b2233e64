use Rattle.std.proofs.Common.{◌≡◌, ◌++◌, drop}
use Rattle.transfer_resume.specs.Plain.{words_of_rows, parts_of_rows}
use Rattle.transfer_resume.proofs.plain.add_rows.Given as goal

abbrev pub invariant-loop-row : goal.invariant-loop-row
invariant-loop-row l = record {
  words : l.words ++ words_of_rows (drop l.row-index l.rows) ≡ l.initial.words ++ words_of_rows l.rows;
  parts : l.parts ++ parts_of_rows (drop l.row-index l.rows) ≡ l.initial.parts ++ parts_of_rows l.rows;
}
