use Rattle.std.proofs.Common.{◌≡◌, ◌-◌, ◌≤◌, false, length, take}
use Rattle.std.specs.Io.KnownBytes.{Appends}
use Rattle.hex.specs.Hex.{encode_lower}
use Rattle.stream_dump.proofs.printing.print_digits.Given as goal

abbrev pub invariant-pieces : goal.invariant-pieces
invariant-pieces g l = record {
  within : l.done ≤ length l.bytes;
  open_still : g.O.Sink.finished l.output ≡ false;
  later : g.O.Sink.faults l.fn.output ≤ g.O.Sink.faults l.output;
  wrote : Appends (g.O.Sink.written l.fn.output) (g.O.Sink.written l.output) (encode_lower (take l.done l.bytes));
}

abbrev pub decreases-pieces : goal.decreases-pieces
decreases-pieces g l = length l.bytes - l.done
