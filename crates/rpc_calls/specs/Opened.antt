-- A call that opens where an older one of its name is ended.
use Rattle.std.specs.Prelude.{◌≡◌, ℕ, List, [], ◌∷◌, ◌++◌}
use Rattle.rpc_ids.specs.declared.status.Status.{Status}
use Rattle.rpc_journal.specs.declared.table.call_state.CallState.{CallState}
use Rattle.rpc_journal.specs.table.Touch.{closing}
use Rattle.rpc_calls.specs.Places.{ChangesAt}
use Rattle.rpc_journal.specs.table.Turns.{Turns}

-- first the older call is ended, and then the new one comes last
pub record OpensAnew (old at : ℕ) (status : Status) (state : CallState) (states after : List CallState) : Type 0 where
  pub between : List CallState
  pub ends : ChangesAt old (Turns at (closing status)) states between
  pub opens : after ≡ between ++ state ∷ []
