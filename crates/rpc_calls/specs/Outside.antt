-- Tables that differ in their calls alone.
use Rattle.std.specs.Prelude.{◌≡◌}
use Rattle.rpc_journal.specs.declared.table.call_states.CallStates.{CallStates}

-- all but the calls and the newest call of each name is as it was
pub record SameRest (states after : CallStates) : Type 0 where
  pub unflushed : after.unflushed ≡ states.unflushed
  pub input : after.input_ended ≡ states.input_ended
  pub halt : after.halted ≡ states.halted
  pub closed : after.closed.items ≡ states.closed.items

-- all but the calls is as it was
pub record SameOutside (states after : CallStates) : Type 0 where
  pub newest : after.newest ≡ states.newest
  pub unflushed : after.unflushed ≡ states.unflushed
  pub input : after.input_ended ≡ states.input_ended
  pub halt : after.halted ≡ states.halted
  pub closed : after.closed.items ≡ states.closed.items
