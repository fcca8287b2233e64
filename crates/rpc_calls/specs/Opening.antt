-- A call that opens.
use Rattle.std.specs.Prelude.{◌≡◌, ℕ, [], ◌∷◌, ◌++◌, length, Some}
use Rattle.rpc_journal.specs.declared.table.call_state.CallState.{CallState}
use Rattle.rpc_journal.specs.table.Newest.{IsNamed}
use Rattle.rpc_calls.specs.Outside.{SameOutside, SameRest}
use Rattle.rpc_calls.specs.Roll.{Roll}
use Rattle.rpc_calls.specs.declared.call_place.CallPlace.TheVariants.{Kept}

module _ {H : Type 0} where
  -- one more call is kept, in this state and with this handler, and the others are as they were
  pub record OpensRecord (state : CallState) (handler : H) (old new : Roll H) : Type 0 where
    pub calls : new.states.calls.items ≡ old.states.calls.items ++ state ∷ []
    pub newest : IsNamed state.name (length old.states.calls.items) old.states.newest new.states.newest
    pub rest : SameRest old.states new.states
    pub handlers : new.handlers ≡ old.handlers ++ Some handler ∷ []
    pub key : ℕ
    pub places : new.places ≡ old.places ++ Kept key ∷ []

  -- nothing that is told of the calls has changed
  pub record IsSameRoll (old new : Roll H) : Type 0 where
    pub calls : new.states.calls.items ≡ old.states.calls.items
    pub outside : SameOutside old.states new.states
    pub handlers : new.handlers ≡ old.handlers
    pub places : new.places ≡ old.places
