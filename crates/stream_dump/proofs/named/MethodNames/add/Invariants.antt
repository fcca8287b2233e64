use Rattle.std.proofs.Common.{◌≡◌, ◌+◌, ◌++◌, length, take}
use Rattle.stream_dump.specs.Names.{names_of}
use Rattle.stream_dump.proofs.named.MethodNames.add.Given as goal

abbrev pub invariant-loop-name : goal.invariant-loop-name
invariant-loop-name l = record {
  names : names_of l.self-inside.names.items ≡ l.fn.self ++ names_of (take l.name-index l.more);
  count : length l.self-inside.names.items ≡ length l.fn.self + l.name-index;
}
