-- The calls that are kept in records.
use Rattle.std.specs.Prelude.{ℕ, Bool, true, false, Option, Some, None}
use Rattle.std.specs.Ordering.{nat_cmp}
use Rattle.std.specs.BTreeSet.{contains}
use Rattle.rpc_calls.specs.declared.call_place.CallPlace.{CallPlace}
use Rattle.rpc_calls.specs.declared.call_place.CallPlace.TheVariants.{Kept, Left}
use Rattle.rpc_calls.specs.declared.kept_calls.KeptCalls.{KeptCalls}

abbrev pub is_kept : KeptCalls → ℕ → Bool
is_kept kept c = contains nat_cmp kept.calls c

-- a call that is found so is kept
abbrev pub is_kept_at : Option CallPlace → Bool
is_kept_at None = false
is_kept_at (Some (Kept key)) = true
is_kept_at (Some (Left facts)) = false
