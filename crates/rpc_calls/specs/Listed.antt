-- The list of the calls that don't run and for which an event waits.
use Rattle.std.specs.Prelude.{◌≡◌, ◌≢◌, ◌==◌, ℕ, ◌+◌, ◌<◌, ◌≤◌, ◌⊎◌, Bool, ◌&&◌, ◌||◌, nat_lt, nat_le, List, length, slice_index_or, Option, Some, None, is_some}
use Rattle.std.specs.List.{Contains}
use Rattle.rpc_calls.specs.declared.waiting_calls.WaitingCall.{WaitingCall}
use Rattle.rpc_calls.specs.Marks.{one_if}

-- an event waits for the call c since this place
abbrev pub waits_since : ℕ → ℕ → WaitingCall
waits_since c p = record { since = p; call = c }

-- of a call c for which an event waits since place p and a call k, q, the first goes first
abbrev pub goes_first : ℕ → ℕ → ℕ → ℕ → Bool
goes_first c p k q = nat_lt p q || ((p == q) && nat_le c k)

abbrev pub Precedes : ℕ → ℕ → ℕ → ℕ → Type 0
Precedes c p k q = (p < q) ⊎ ((p ≡ q) × (c ≤ k))

abbrev pub Goes : WaitingCall → WaitingCall → Type 0
Goes v w = Precedes v.call v.since w.call w.since

-- each goes before those that stand behind it
abbrev pub InOrder : List WaitingCall → Type 0
InOrder xs = (i j : ℕ) (d : WaitingCall) → i ≤ j → j < length xs → Goes (slice_index_or xs i d) (slice_index_or xs j d)

-- the call stands at this place of the list
pub record IsPlaceOf (w : WaitingCall) (xs : List WaitingCall) (at : ℕ) : Type 0 where
  pub within : at < length xs
  pub is : (d : WaitingCall) → (slice_index_or xs at d).call ≡ w.call

-- the calls before this place go before c, and c goes before the others
pub record PlaceInOrder (p c : ℕ) (xs : List WaitingCall) (at : ℕ) : Type 0 where
  pub within : at ≤ length xs
  pub before : (k : ℕ) (d : WaitingCall) → k < at → Goes (slice_index_or xs k d) (waits_since c p)
  pub behind : (k : ℕ) (d : WaitingCall) → at ≤ k → k < length xs → Goes (waits_since c p) (slice_index_or xs k d)

-- the list is in order; the call stands there where an event waited for it, and otherwise there is a place for it
pub record CanRelist (c : ℕ) (was : Option ℕ) (listed : List WaitingCall) (capacity : ℕ) : Type 0 where
  pub order : InOrder listed
  pub there : (p : ℕ) → was ≡ Some p → Contains listed (waits_since c p)
  pub fits : length listed ≤ capacity
  pub place : was ≡ None → length listed < capacity

-- the call comes into the list where an event waits for it now, and goes where none waits any more
pub record Relists (c : ℕ) (was is : Option ℕ) (listed after : List WaitingCall) : Type 0 where
  pub here : (p : ℕ) → is ≡ Some p → Contains after (waits_since c p)
  pub others : (w : WaitingCall) → w.call ≢ c → Contains listed w → Contains after w
  pub many : length after + one_if (is_some was) ≡ length listed + one_if (is_some is)
  pub order : InOrder after
