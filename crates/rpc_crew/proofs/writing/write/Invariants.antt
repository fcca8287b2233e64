use Rattle.std.proofs.Common.{◌≡◌, ◌≤◌, false}
use Rattle.rtrb.specs.Ring.{SameConsumer, received}
use Rattle.turn_cell.specs.Passes.{IsSame}
use Rattle.rpc_shared.specs.session.Ring.{Writes}
use Rattle.rpc_crew.specs.Batches.{no_batch}
use Rattle.rpc_crew.proofs.writing.write.Given as goal

abbrev pub invariant-loop : goal.invariant-loop
invariant-loop g l = record {
  writes : Writes g.H.Handler.rule l.shared (g.O.Sink.written l.fn.output) (g.O.Sink.written l.output) (g.S.Store.holds l.fn.store) (g.S.Store.holds l.store) l.fn.log l.log (received l.ring) l.done l.pass;
  same : IsSame l.fn.pass l.pass;
  ring : SameConsumer l.fn.ring l.ring;
  sink_later : g.O.Sink.faults l.fn.output ≤ g.O.Sink.faults l.output;
  store_later : g.S.Store.faults l.fn.store ≤ g.S.Store.faults l.store;
  more : g.O.Sink.finished l.output ≡ false;
  empty : l.batch ≡ no_batch;
}
