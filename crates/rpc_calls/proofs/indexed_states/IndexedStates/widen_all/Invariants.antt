-- The calls below the next number have two places or are done with, and none has fewer than it had.
use Rattle.std.proofs.Common.{◌≡◌, ℕ, ◌<◌, ◌≤◌, length, slice_get, Some, None}
use Rattle.rpc_journal.specs.declared.table.call_state.CallState.{CallState}
use Rattle.rpc_calls.specs.Outside.{SameOutside}
use Rattle.rpc_calls.specs.Places.{ChangesAll}
use Rattle.rpc_calls.specs.Widened.{HasTwoPlaces, IsWider}
use Rattle.rpc_calls.proofs.indexed_states.IndexedStates.widen_all.Given as goal

abbrev pub invariant-loop-step : goal.invariant-loop-step
invariant-loop-step g l = record {
  count : l.count ≡ length l.fn.self.states.calls.items;
  ahead : l.step ≤ l.from;
  same : ChangesAll IsWider l.fn.self.states.calls.items l.self.states.calls.items;
  outside : SameOutside l.fn.self.states l.self.states;
  handlers : l.self.handlers ≡ l.fn.self.handlers;
  room : (k : ℕ) (r : CallState) → k < l.from → slice_get l.self.states.calls.items k ≡ Some r → r.status ≡ None → HasTwoPlaces r;
}
