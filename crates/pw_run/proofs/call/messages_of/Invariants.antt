use Rattle.std.proofs.Common.{map, string_bytes, take}
use Rattle.pw_run.specs.CallCommand.{TellEach}
use Rattle.pw_run.proofs.call.messages_of.Given as goal

abbrev pub invariant-loop-word : goal.invariant-loop-word
invariant-loop-word l = TellEach (map string_bytes (take l.word-index l.words)) l.messages
