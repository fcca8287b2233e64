-- The calls below the next number were told, and the others are as they were.
use Rattle.std.proofs.Common.{◌≡◌, ◌≤◌, length}
use Rattle.rpc_calls.specs.Outside.{SameOutside}
use Rattle.rpc_journal.specs.table.Turns.{IsTold}
use Rattle.rpc_calls.proofs.PlaceChanges.{ChangesBelow}
use Rattle.rpc_calls.proofs.indexed_states.IndexedStates.tell_all.Given as goal

abbrev pub invariant-loop-step : goal.invariant-loop-step
invariant-loop-step g l = record {
  count : l.count ≡ length l.fn.self.states.calls.items;
  ahead : l.step ≤ l.from;
  told : ChangesBelow l.from (IsTold l.at l.notice) l.fn.self.states.calls.items l.self.states.calls.items;
  outside : SameOutside l.fn.self.states l.self.states;
  handlers : l.self.handlers ≡ l.fn.self.handlers;
}
