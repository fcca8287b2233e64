use Rattle.std.proofs.Common.{◌≡◌, false}
use Rattle.turn_cell.specs.Passes.{IsSame}
use Rattle.crew_use.proofs.turns.threads.work.Given as goal

abbrev pub invariant-loop-number : goal.invariant-loop-number
invariant-loop-number g l = record {
  same : IsSame l.initial.pass l.pass;
  idle : l.pass.view.holds ≡ false;
}
