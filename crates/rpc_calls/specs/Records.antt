-- The records of calls in a slab.
use Rattle.std.specs.Prelude.{◌≡◌, ℕ, ◌∷◌, Option, Some, None, IfSome}
use Rattle.slab.specs.Slab.{Slab, Updates, get}
use Rattle.rpc_journal.specs.declared.table.call_state.CallState.{CallState}
use Rattle.rpc_journal.specs.declared.waiting.Waiting.{Waiting}
use Rattle.rpc_calls.specs.declared.call_record.CallRecord.{CallRecord}
use Rattle.rpc_calls.specs.declared.state_change.StateChange.{StateChange}
use Rattle.rpc_calls.specs.StateChanges.{CanTurn}

module _ {H : Type 0} where
  abbrev pub state_in : Option (CallRecord H) → Option CallState
  state_in None = None
  state_in (Some q) = Some q.state

  abbrev pub handler_of : Option (CallRecord H) → Option H
  handler_of None = None
  handler_of (Some q) = q.handler

  -- the state in this record can change so
  abbrev pub CanTurnUnder : StateChange → Option (CallRecord H) → Type 0
  CanTurnUnder change None = Unit {0}
  CanTurnUnder change (Some q) = CanTurn change q.state

  -- the state in the record under this key has changed so, and nothing else has
  pub record ChangesRecord (key : ℕ) (R : CallState → CallState → Type 0) (old new : Slab (CallRecord H)) : Type 0 where
    pub state : (q : CallRecord H) → get old key ≡ Some q → CallState
    pub turns : (q : CallRecord H) (is : get old key ≡ Some q) → R q.state (state q is)
    pub updates : (q : CallRecord H) (is : get old key ≡ Some q) → Updates old new key (Some (record q { state = state q is }))

  -- the first of its events was this
  abbrev pub TakesOldest : Option Waiting → Option (CallRecord H) → Option (CallRecord H) → Type 0
  TakesOldest oldest (Some q) (Some p) = IfSome oldest (λ w. q.state.waiting.items ≡ w ∷ p.state.waiting.items)
  TakesOldest oldest (Some q) None = Unit {0}
  TakesOldest oldest None p = Unit {0}

  -- the handler in the record under this key is this one now, and nothing else has changed
  pub record ChangesHandler (key : ℕ) (handler : Option H) (old new : Slab (CallRecord H)) : Type 0 where
    pub updates : (q : CallRecord H) → get old key ≡ Some q → Updates old new key (Some (record q { handler = handler }))
