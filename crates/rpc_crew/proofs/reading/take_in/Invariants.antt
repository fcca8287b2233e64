use Rattle.std.proofs.Common.{◌≡◌}
use Rattle.turn_cell.specs.Passes.{IsSame}
use Rattle.rpc_journal.specs.Items.{arrivals}
use Rattle.rpc_shared.specs.session.Crew.{Reader}
use Rattle.rpc_crew.proofs.reading.take_in.Given as goal

abbrev pub invariant-loop : goal.invariant-loop
invariant-loop g l = record {
  reader : Reader g.M.H.Handler.rule l.shared l.pass;
  same : IsSame l.fn.pass l.pass;
  kept : arrivals l.pass.view.known.mine ≡ arrivals l.fn.pass.view.known.mine;
}
