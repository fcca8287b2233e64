use Rattle.std.proofs.Common.{◌≡◌, None, take}
use Rattle.std.specs.List.{find}
use Rattle.stream_dump.specs.Names.{has_ids, names_of}
use Rattle.stream_dump.proofs.names.method_word.Given as goal

abbrev pub invariant-loop-name : goal.invariant-loop-name
invariant-loop-name l = find (has_ids l.service l.method) (names_of (take l.name-index l.names)) ≡ None
