-- A store in memory.
use Rattle.std.specs.Prelude.{◌≡◌, ℕ, List, [], Contains, Result, Err}
use Rattle.link_io.specs.declared.store.StoreRefused.{StoreRefused}
use Rattle.link_io.specs.declared.store.StoreRefused.TheVariants.{Failed}
use Rattle.link_io.specs.Resources.{Resources, with_resources}
use Rattle.link_io.specs.Stored.{Stored}

pub record StoreDevice : Type 0 where
  pub stored : Stored
  -- the numbers of the calls that fail, counted from 1
  pub fails : List ℕ
  -- the calls so far
  pub calls : ℕ
  -- the calls that failed
  pub faults : ℕ

-- a store with these resources, each put in its place, before its first call
abbrev pub fresh_store : Resources → Resources → List ℕ → StoreDevice
fresh_store full left fails = record {
  stored = record { full = with_resources full []; left = with_resources left []; work = [] };
  fails = fails;
  calls = 0;
  faults = 0;
}

-- the call fails where its number is one of these, and for no other cause than that
pub record FailsBy {T : Type 0} (fails : List ℕ) (call : ℕ) (result : Result T StoreRefused) : Type 0 where
  pub chosen : Contains fails call → result ≡ Err Failed
  pub only : result ≡ Err Failed → Contains fails call
