use Rattle.std.proofs.Common.{◌≡◌, true, length, map, string_bytes, take}
use Rattle.std.specs.List.{list_all}
use Rattle.stream_dump.specs.Named.{has_good_names, word_of}
use Rattle.stream_dump.specs.Names.{names_of}
use Rattle.stream_dump.proofs.named.MethodNames.of.Given as goal

abbrev pub invariant-loop-word : goal.invariant-loop-word
invariant-loop-word l = record {
  spelled : map string_bytes (take l.word-index l.words) ≡ map word_of (names_of l.names.items);
  good : list_all has_good_names (names_of l.names.items) ≡ true;
  count : length l.names.items ≡ l.word-index;
}
