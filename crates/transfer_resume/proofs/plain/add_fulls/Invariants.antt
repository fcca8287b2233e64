use Rattle.std.proofs.Common.{◌≡◌, ◌++◌, drop}
use Rattle.transfer_resume.specs.Plain.{full_words, full_parts}
use Rattle.transfer_resume.proofs.plain.add_fulls.Given as goal

abbrev pub invariant-loop-id : goal.invariant-loop-id
invariant-loop-id l = record {
  words : l.words ++ full_words (drop l.id-index l.id-items) ≡ l.initial.words ++ full_words l.id-items;
  parts : l.parts ++ full_parts (drop l.id-index l.id-items) ≡ l.initial.parts ++ full_parts l.id-items;
}
