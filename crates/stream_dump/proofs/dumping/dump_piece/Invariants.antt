use Rattle.std.proofs.Common.{◌≡◌, ◌+◌, ◌-◌, ◌≤◌, false, length, take}
use Rattle.stream_dump.specs.Names.{names_of}
use Rattle.stream_dump.specs.Progress.{DumpsOn}
use Rattle.stream_dump.proofs.dumping.dump_piece.Given as goal

abbrev pub invariant-texts : goal.invariant-texts
invariant-texts g l = record {
  within : l.done ≤ length l.piece;
  open_still : g.O.Sink.finished l.output ≡ false;
  later : g.O.Sink.faults l.fn.output ≤ g.O.Sink.faults l.output;
  place : l.dumper.start + l.dumper.len ≡ l.fn.dumper.start + l.fn.dumper.len + l.done;
  on : DumpsOn (names_of l.names) (record { dumper = l.fn.dumper; written = g.O.Sink.written l.fn.output }) (record { dumper = l.dumper; written = g.O.Sink.written l.output }) (take l.done l.piece);
}

abbrev pub decreases-texts : goal.decreases-texts
decreases-texts g l = length l.piece - l.done
