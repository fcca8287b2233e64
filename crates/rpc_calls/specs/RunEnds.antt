-- What becomes of the handlers of calls whose runs end, that are cancelled, and that leave.
use Rattle.std.specs.Prelude.{◌≡◌, ◌≢◌, ◌⊎◌, ℕ, Bool, true, false, ◌||◌, List, length, slice_get, slice_set, Option, Some, None, IfSome, is_some, if◌then◌else◌}
use Rattle.rpc_journal.specs.declared.table.call_state.CallState.{CallState}
use Rattle.rpc_calls.specs.Facts.{is_done_with}
use Rattle.rpc_calls.specs.Handlers.{over_state}
use Rattle.rpc_calls.specs.Kept.{is_kept_at}
use Rattle.rpc_calls.specs.Roll.{Roll}

module _ {H : Type 0} where
  -- the handler of call c is put back, but where the call is over or has another one
  pub record IsPutBack (c : ℕ) (handler : H) (over : Bool) (result : Option H) (old new : List (Option H)) : Type 0 where
    pub many : length new ≡ length old
    pub others : (k : ℕ) → k ≢ c → slice_get new k ≡ slice_get old k
    pub back : (slot : Option H) → slice_get old c ≡ Some slot → is_some result ≡ (over || is_some slot)
    pub it : IfSome result (λ h. h ≡ handler)
    pub kept : (slot : Option H) → slice_get old c ≡ Some slot → slice_get new c ≡ Some (if over || is_some slot then slot else Some handler)

  pub record PutsBack (c : ℕ) (handler : H) (result : Option H) (old new : Roll H) : Type 0 where
    pub over : Bool
    pub over_is : (x : CallState) → slice_get new.states.calls.items c ≡ Some x → over ≡ over_state x
    pub put : IsPutBack c handler over result old.handlers new.handlers
    pub states : new.states ≡ old.states
    pub places : new.places ≡ old.places

  -- call c has left where it was done with, and its handler with it
  pub record HandlersLeft (c : ℕ) (between : List (Option H)) (new : Roll H) : Type 0 where
    pub how : (new.handlers ≡ between) ⊎ ((new.handlers ≡ slice_set between c None) × ((x : CallState) → slice_get new.states.calls.items c ≡ Some x → is_done_with x ≡ true))

  pub record LeavesIfDone (c : ℕ) (old new : Roll H) : Type 0 where
    pub states : new.states ≡ old.states
    pub handlers : HandlersLeft c old.handlers new
    pub others : (k : ℕ) → k ≢ c → slice_get new.places k ≡ slice_get old.places k
    pub used : is_kept_at (slice_get new.places c) ≡ true → (x : CallState) → slice_get new.states.calls.items c ≡ Some x → is_done_with x ≡ false

  -- the handler of a call whose run ends is put back, and the call leaves where it is done with
  pub record EndsRun (c : ℕ) (handler : H) (result : Option H) (old : List (Option H)) (new : Roll H) : Type 0 where
    pub over : Bool
    pub over_is : (x : CallState) → slice_get new.states.calls.items c ≡ Some x → over ≡ over_state x
    pub between : List (Option H)
    pub put : IsPutBack c handler over result old between
    pub leaves : HandlersLeft c between new

  -- the handler of a call that is cancelled goes, but where the call runs
  pub record CutsHandler (c : ℕ) (old : Roll H) (new : List (Option H)) : Type 0 where
    pub many : length new ≡ length old.handlers
    pub others : (k : ℕ) → k ≢ c → slice_get new k ≡ slice_get old.handlers k
    pub kept : (slot : Option H) (r : CallState) → slice_get old.handlers c ≡ Some slot → slice_get old.states.calls.items c ≡ Some r → slice_get new c ≡ Some (if is_some r.run then slot else None)
