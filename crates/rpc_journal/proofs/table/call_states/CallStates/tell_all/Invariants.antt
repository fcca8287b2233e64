-- The calls below this one were told, and the others are as they were.
use Rattle.std.proofs.Common.{◌≡◌, ℕ, ◌<◌, ◌≤◌, length, slice_get, Some}
use Rattle.rpc_journal.specs.declared.table.call_state.CallState.{CallState}
use Rattle.rpc_journal.specs.table.Touch.{IsTouched, telling}
use Rattle.rpc_journal.proofs.table.call_states.CallStates.tell_all.Given as goal

abbrev pub invariant-loop-call : goal.invariant-loop-call
invariant-loop-call l = record {
  count : l.count ≡ length l.fn.self.calls.items;
  many : length l.self.calls.items ≡ length l.fn.self.calls.items;
  told : (k : ℕ) (r x : CallState) → k < l.call → slice_get l.fn.self.calls.items k ≡ Some r → slice_get l.self.calls.items k ≡ Some x → IsTouched l.at (telling l.notice r) r x;
  rest : (k : ℕ) → l.call ≤ k → slice_get l.self.calls.items k ≡ slice_get l.fn.self.calls.items k;
  newest : l.self.newest ≡ l.fn.self.newest;
  closed : l.self.closed ≡ l.fn.self.closed;
  unflushed : l.self.unflushed ≡ l.fn.self.unflushed;
  input : l.self.input_ended ≡ l.fn.self.input_ended;
  halt : l.self.halted ≡ l.fn.self.halted;
}
