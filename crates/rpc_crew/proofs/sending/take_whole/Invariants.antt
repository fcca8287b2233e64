use Rattle.std.proofs.Common.{ℕ, ◌+◌, length}
use Rattle.rpc_shared.specs.session.Log.{HasPlaces}
use Rattle.rpc_crew.specs.Batches.{TakesWhole}
use Rattle.rpc_crew.proofs.sending.take_whole.Given as goal

abbrev pub invariant-items : goal.invariant-items
invariant-items l = record {
  takes : TakesWhole l.written l.fn.batch.framed l.batch.framed l.fn.log l.log 0 l.count;
  places : (n : ℕ) → HasPlaces l.fn.log (length l.fn.batch.framed + n) → HasPlaces l.log (length l.batch.framed + n);
}

abbrev pub decreases-items : goal.decreases-items
decreases-items l = length l.batch.framed
