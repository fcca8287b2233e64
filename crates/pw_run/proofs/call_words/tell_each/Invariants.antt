use Rattle.std.proofs.Common.{ℕ, List, map, string_bytes, take}
use Rattle.pw_run.specs.CallCommand.{TellEach}
use Rattle.pw_run.proofs.call_words.tell_each.Given as goal

abbrev pub invariant-loop-word : goal.invariant-loop-word
invariant-loop-word l = (told : List (List ℕ)) × TellEach (map string_bytes (take l.word-index l.words)) told
