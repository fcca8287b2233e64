use Rattle.rpc_shared.specs.Helpers.{IsFeeder, IsSeat}
use Rattle.crew_use.proofs.shared.rows.follow.Given as goal

abbrev pub invariant-loop-step : goal.invariant-loop-step
invariant-loop-step g l = record {
  feeder : IsFeeder l.shared l.reader;
  seat : IsSeat l.shared l.writer;
}
