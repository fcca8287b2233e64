use Rattle.turn_cell.specs.Passes.{IsSame}
use Rattle.rpc_shared.specs.session.Crew.{Worker}
use Rattle.rpc_crew.proofs.working.work.Given as goal

abbrev pub invariant-loop : goal.invariant-loop
invariant-loop g l = record {
  worker : Worker g.H.Handler.rule l.shared l.pass;
  same : IsSame l.initial.pass l.pass;
}
