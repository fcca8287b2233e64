use Rattle.std.proofs.Common.{◌≡◌, ◌+◌, ◌-◌, ◌≤◌, false}
use Rattle.stream_dump.specs.Names.{names_of}
use Rattle.stream_dump.specs.Progress.{HasTaken}
use Rattle.stream_dump.proofs.dumping.dump_stream.Given as goal

abbrev pub invariant-pieces : goal.invariant-pieces
invariant-pieces g l = record {
  within : l.total ≤ 67108864;
  open_still : g.O.Sink.finished l.output ≡ false;
  later_in : g.I.Source.faults l.fn.input ≤ g.I.Source.faults l.input;
  later_out : g.O.Sink.faults l.fn.output ≤ g.O.Sink.faults l.output;
  place : l.dumper.start + l.dumper.len ≡ l.total;
  read : HasTaken (names_of l.names) (record { dumper = l.dumper; written = g.O.Sink.written l.output }) (g.I.Source.left l.fn.input) (g.I.Source.left l.input) (g.O.Sink.written l.fn.output) l.total;
}

abbrev pub decreases-pieces : goal.decreases-pieces
decreases-pieces g l = 67108864 - l.total
