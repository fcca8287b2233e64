use Rattle.std.proofs.Common.{◌≡◌, false, length, ◌-◌, ◌≤◌, take}
use Rattle.std.specs.Io.KnownBytes.{Appends}
use Rattle.rpc_crew.proofs.sending.write_bytes.Given as goal

abbrev pub invariant-writes : goal.invariant-writes
invariant-writes g l = record {
  within : l.done ≤ length l.bytes;
  wrote : Appends (g.O.Sink.written l.fn.output) (g.O.Sink.written l.output) (take l.done l.bytes);
  later : g.O.Sink.faults l.fn.output ≤ g.O.Sink.faults l.output;
  open_still : g.O.Sink.finished l.output ≡ false;
}

abbrev pub decreases-writes : goal.decreases-writes
decreases-writes g l = length l.bytes - l.done
