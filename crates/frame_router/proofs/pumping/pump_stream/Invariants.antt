use Rattle.std.proofs.Common.{◌≡◌, ◌-◌, ◌≤◌, false}
use Rattle.frame_router.specs.Gathered.{no_batch}
use Rattle.frame_router.specs.Steps.{HasTaken}
use Rattle.frame_router.proofs.pumping.pump_stream.Given as goal

abbrev pub invariant-pieces : goal.invariant-pieces
invariant-pieces g l = record {
  empty : l.batch ≡ no_batch;
  within : l.total ≤ 67108864;
  open_still : g.O.Sink.finished l.link_out ≡ false;
  later_in : g.I.Source.faults l.fn.link_in ≤ g.I.Source.faults l.link_in;
  later_out : g.O.Sink.faults l.fn.link_out ≤ g.O.Sink.faults l.link_out;
  read : HasTaken l.routes l.from l.intake (g.I.Source.left l.fn.link_in) (g.I.Source.left l.link_in) (g.O.Sink.written l.fn.link_out) (g.O.Sink.written l.link_out) l.total;
}

abbrev pub decreases-pieces : goal.decreases-pieces
decreases-pieces g l = 67108864 - l.total
