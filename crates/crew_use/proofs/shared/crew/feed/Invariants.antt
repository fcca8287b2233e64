use Rattle.std.proofs.Common.{◌≡◌}
use Rattle.rpc_shared.specs.Helpers.{IsFeeder}
use Rattle.crew_use.proofs.shared.crew.feed.Given as goal

abbrev pub invariant-loop-call : goal.invariant-loop-call
invariant-loop-call g l = record {
  feeder : IsFeeder l.shared l.pass;
  number : l.pass.view.known.number ≡ l.fn.pass.view.known.number;
}
