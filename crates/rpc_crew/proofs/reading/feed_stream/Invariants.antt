use Rattle.std.proofs.Common.{◌-◌, ◌≤◌}
use Rattle.turn_cell.specs.Passes.{IsSame}
use Rattle.rpc_schedule.specs.declared.stream.TheConstants.{INPUT_LIMIT}
use Rattle.rpc_shared.specs.session.Crew.{Reader}
use Rattle.rpc_shared.proofs.session.ReaderLemmas.{HasFed}
use Rattle.rpc_crew.proofs.reading.feed_stream.Given as goal

abbrev pub invariant-pieces : goal.invariant-pieces
invariant-pieces g l = record {
  reader : Reader g.M.H.Handler.rule l.shared l.pass;
  same : IsSame l.fn.pass l.pass;
  fed : HasFed (g.I.Source.left l.fn.input) (g.I.Source.left l.input) l.total l.listener l.pass;
  later : g.I.Source.faults l.fn.input ≤ g.I.Source.faults l.input;
}

abbrev pub decreases-pieces : goal.decreases-pieces
decreases-pieces g l = INPUT_LIMIT - l.total
