use Rattle.std.proofs.Common.{◌≡◌, ◌+◌, ◌++◌, take}
use Rattle.arrayvec.specs.ArrayVec.{array_vec_len}
use Rattle.stream_dump.specs.Words.{texts}
use Rattle.stream_dump.proofs.words.add.Given as goal

abbrev pub invariant-loop-word : goal.invariant-loop-word
invariant-loop-word l = record {
  words : texts l.words.items ≡ texts l.fn.words.items ++ texts (take l.word-index l.more);
  count : array_vec_len l.words ≡ array_vec_len l.fn.words + l.word-index;
}
