use Rattle.std.proofs.Common.{◌≡◌, false}
use Rattle.turn_cell.specs.Passes.{IsSame}
use Rattle.turn_cell.proofs.turn.Turn.take.Given as goal

abbrev pub invariant-loop : goal.invariant-loop
invariant-loop g l = record {
  can : (goal.iterator-loop g).can_next l.iterator';
  ends : (goal.iterator-loop g).is_finite l.iterator';
  same : IsSame l.initial.pass l.pass;
  known : l.pass.view.known ≡ l.initial.pass.view.known;
  idle : l.pass.view.holds ≡ false;
}
