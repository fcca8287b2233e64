-- The calls that are kept in records.
use Rattle.std.specs.Prelude.{◌≡◌, ℕ, false, true, List, slice_get, Some}
use Rattle.rpc_journal.specs.declared.table.call_state.CallState.{CallState}
use Rattle.rpc_calls.specs.declared.call_place.CallPlace.{CallPlace}
use Rattle.rpc_calls.specs.declared.index.Index.{Index}
use Rattle.rpc_calls.specs.declared.kept_calls.KeptCalls.{KeptCalls}
use Rattle.rpc_calls.specs.Facts.{is_done_with}
use Rattle.rpc_calls.specs.Indexed.{IsIndexed}
use Rattle.rpc_calls.specs.Kept.{is_kept, is_kept_at}
use Rattle.rpc_calls.specs.Roll.{Roll}

-- these are the numbers of the calls that are kept
pub record AreKept (kept : KeptCalls) (places : List CallPlace) : Type 0 where
  pub each : (c : ℕ) → is_kept kept c ≡ is_kept_at (slice_get places c)

-- no call that is done with is kept
pub record AreInUse {H : Type 0} (t : Roll H) : Type 0 where
  pub used : (c : ℕ) (r : CallState) → is_kept_at (slice_get t.places c) ≡ true → slice_get t.states.calls.items c ≡ Some r → is_done_with r ≡ false

-- the index is that of these calls, the numbers are those of the calls that are kept, and no call is kept that is done with
pub record AreIndexed {H : Type 0} (t : Roll H) (index : Index) (numbers : KeptCalls) : Type 0 where
  pub indexed : IsIndexed t.states.calls.items index
  pub kept : AreKept numbers t.places
  pub used : AreInUse t
