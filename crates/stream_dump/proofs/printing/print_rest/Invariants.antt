use Rattle.std.proofs.Common.{◌≡◌, ◌≤◌, false, take}
use Rattle.std.specs.Io.KnownBytes.{Appends}
use Rattle.std.specs.List.{flat_map}
use Rattle.stream_dump.specs.Lines.{behind_blank}
use Rattle.stream_dump.specs.Words.{texts}
use Rattle.stream_dump.proofs.printing.print_rest.Given as goal

abbrev pub invariant-loop-word : goal.invariant-loop-word
invariant-loop-word g l = record {
  open_still : g.O.Sink.finished l.output ≡ false;
  later : g.O.Sink.faults l.fn.output ≤ g.O.Sink.faults l.output;
  wrote : Appends (g.O.Sink.written l.fn.output) (g.O.Sink.written l.output) (flat_map behind_blank (texts (take l.word-index l.words)));
}
