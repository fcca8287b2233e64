-- The first call of the list for which an event waits that can start.
use Rattle.std.specs.Prelude.{◌≡◌, ℕ, ◌<◌, ◌==◌, Bool, true, false, ◌&&◌, List, length, Option, Some, None, is_some, slice_get, MatchOption}
use Rattle.std.specs.List.{AllWithin, HoldsAt}
use Rattle.rpc_journal.specs.declared.table.call_state.CallState.{CallState}
use Rattle.rpc_journal.specs.declared.table.call_states.CallStates.{CallStates}
use Rattle.rpc_journal.specs.Choice.{first_place}
use Rattle.rpc_journal.specs.table.Touch.{is_startable}
use Rattle.rpc_calls.specs.declared.waiting_calls.WaitingCall.{WaitingCall}

-- a call in this state can start, with an event of this place
abbrev pub starts_in : CallStates → ℕ → Option CallState → Bool
starts_in t p None = false
starts_in t p (Some r) = is_startable r t.unflushed (is_some t.halted) && (first_place r.waiting.items == p)

abbrev pub starts_since : CallStates → WaitingCall → Bool
starts_since t w = starts_in t w.since (slice_get t.calls.items w.call)

-- the first place of the list whose call can start
abbrev pub FirstToStart : CallStates → List WaitingCall → Option ℕ → Type 0
FirstToStart t listed found =
    MatchOption found (AllWithin (λ w. starts_since t w ≡ false) listed 0 (length listed))
    (λ at. (at < length listed) × HoldsAt (λ w. starts_since t w ≡ true) listed at × AllWithin (λ w. starts_since t w ≡ false) listed 0 at)
