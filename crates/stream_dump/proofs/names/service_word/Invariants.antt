use Rattle.std.proofs.Common.{◌≡◌, None, take}
use Rattle.std.specs.List.{find}
use Rattle.stream_dump.specs.Names.{has_service, names_of}
use Rattle.stream_dump.proofs.names.service_word.Given as goal

abbrev pub invariant-loop-name : goal.invariant-loop-name
invariant-loop-name l = find (has_service l.service) (names_of (take l.name-index l.names)) ≡ None
