use Rattle.std.proofs.Common.{◌≡◌, false, length, ◌-◌, ◌≤◌, take}
use Rattle.std.specs.Io.KnownBytes.{Appends}
use Rattle.frame_router.proofs.pumping.write_batch.Given as goal

abbrev pub invariant-writes : goal.invariant-writes
invariant-writes g l = record {
  within : l.done ≤ length l.bytes;
  wrote : Appends (g.O.Sink.written l.fn.link_out) (g.O.Sink.written l.link_out) (take l.done l.bytes);
  later : g.O.Sink.faults l.fn.link_out ≤ g.O.Sink.faults l.link_out;
  open_still : g.O.Sink.finished l.link_out ≡ false;
}

abbrev pub decreases-writes : goal.decreases-writes
decreases-writes g l = length l.bytes - l.done
