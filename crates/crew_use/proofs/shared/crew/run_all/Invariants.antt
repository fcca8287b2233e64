use Rattle.std.proofs.Common.{◌≡◌}
use Rattle.rpc_shared.specs.Helpers.{IsSeat}
use Rattle.crew_use.proofs.shared.crew.run_all.Given as goal

abbrev pub invariant-rounds : goal.invariant-rounds
invariant-rounds g l = record {
  can : (goal.iterator-rounds g).can_next l.iterator';
  ends : (goal.iterator-rounds g).is_finite l.iterator';
  seat : IsSeat l.shared l.pass;
  number : l.pass.view.known.number ≡ l.fn.pass.view.known.number;
}
