use Rattle.rtrb.specs.Ring.{SameProducer, sent}
use Rattle.turn_cell.specs.Passes.{IsSame}
use Rattle.rpc_shared.specs.session.Ring.{Pumps, Ticked}
use Rattle.rpc_crew.proofs.pumping.pump.Given as goal

abbrev pub invariant-loop : goal.invariant-loop
invariant-loop g l = record {
  same : IsSame l.fn.pass l.pass;
  ring : SameProducer l.fn.ring l.ring;
  pumps : Pumps g.H.Handler.rule l.shared (sent l.ring) l.hand l.pass;
  ticks : Ticked l.began l.pass.view.known.mine l.ticked (g.C.Clock.last l.clock);
}
