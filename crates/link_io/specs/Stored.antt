-- What a store holds, and what each call does to it.
use Rattle.std.specs.Prelude.{◌≡◌, ℕ, ◌+◌, ◌==◌, Bool, not, if◌then◌else◌, List, [], ◌∷◌, ◌++◌, filter, length, take, Option, Some, None, IfSome, option_map, unwrap_or, Result, OnOk, OnErr, IfOk}
use Rattle.std.specs.declared.cmp.Ordering.{Ordering}
use Rattle.std.specs.Ordering.{nat_cmp, ordering_then}
use Rattle.std.specs.Map.{lookup, remove_entry, set_value}
use Rattle.std.specs.BTreeMap.{insert_entry, is_at}
use Rattle.link_io.specs.declared.store.StoreKey.{StoreKey}
use Rattle.link_io.specs.declared.shelf.Shelf.{Shelf}
use Rattle.link_io.specs.Resources.{Resources, found, with_resource, without_resource, lengths_of, RiseById}

-- what is being written: for which resource, from which offset on, all its bytes, and how many of them were appended
pub record Work : Type 0 where
  pub resource : ℕ
  pub offset : ℕ
  pub bytes : List ℕ
  pub appended : ℕ

-- works by rising key
abbrev pub Works : Type 0
Works = List (StoreKey × Work)

pub record Stored : Type 0 where
  -- whole resources
  pub full : Resources
  -- what uploads that didn't end well have left
  pub left : Resources
  -- the uploads under way
  pub work : Works

-- how two keys compare: by call, and then by session
abbrev pub key_cmp : StoreKey → StoreKey → Ordering
key_cmp a b = ordering_then (nat_cmp a.call b.call) (nat_cmp a.session b.session)

abbrev pub is_key : StoreKey → StoreKey → Bool
is_key key = is_at (key_cmp key)

abbrev pub work_of : StoreKey → Works → Option Work
work_of key works = lookup (is_key key) works

-- a work begins with the bytes before its offset of what is left of its resource
abbrev pub new_work : ℕ → ℕ → Resources → Work
new_work resource offset left = record {
  resource = resource;
  offset = offset;
  bytes = take offset (unwrap_or (found resource left) []);
  appended = 0;
}

abbrev pub begun : StoreKey → ℕ → ℕ → Stored → Stored
begun key resource offset s = record s { work = insert_entry key_cmp s.work key (new_work resource offset s.left) }

-- a work with more bytes
abbrev pub longer : List ℕ → Work → Work
longer bytes w = record w { bytes = w.bytes ++ bytes; appended = w.appended + length bytes }

abbrev pub appended_to : StoreKey → List ℕ → Option Work → Stored → Stored
appended_to key bytes None s = s
appended_to key bytes (Some w) s = record s { work = set_value (is_key key) s.work (longer bytes w) }

abbrev pub appended : StoreKey → List ℕ → Stored → Stored
appended key bytes s = appended_to key bytes (work_of key s.work) s

-- a work that is committed is its resource, of which nothing is left over
abbrev pub committed_of : StoreKey → Option Work → Stored → Stored
committed_of key None s = s
committed_of key (Some w) s = record {
  full = with_resource w.resource w.bytes s.full;
  left = without_resource w.resource s.left;
  work = remove_entry (is_key key) s.work;
}

abbrev pub committed : StoreKey → Stored → Stored
committed key s = committed_of key (work_of key s.work) s

-- what is left once a work ends: itself, where bytes were appended to it
abbrev pub left_by : Work → Resources → Resources
left_by w left = if w.appended == 0 then left else with_resource w.resource w.bytes left

abbrev pub abandoned_of : StoreKey → Option Work → Stored → Stored
abandoned_of key None s = s
abandoned_of key (Some w) s = record s { left = left_by w s.left; work = remove_entry (is_key key) s.work }

abbrev pub abandoned : StoreKey → Stored → Stored
abandoned key s = abandoned_of key (work_of key s.work) s

-- what is left once all works of a call end, by rising session
abbrev pub left_by_call : ℕ → Works → Resources → Resources
left_by_call call [] left = left
left_by_call call (e ∷ works) left = left_by_call call works (if e.0.call == call then left_by e.1 left else left)

abbrev pub other_works : ℕ → Works → Works
other_works call works = filter (λ e. not (e.0.call == call)) works

abbrev pub all_abandoned : ℕ → Stored → Stored
all_abandoned call s = record s { left = left_by_call call s.work s.left; work = other_works call s.work }

-- what a store lists: its resources, and the lengths of what is left
abbrev pub shelf_of : Stored → Shelf
shelf_of s = record { full = s.full; left = lengths_of s.left }

-- a call makes a change, where the store tells of what it holds, or is refused and makes none
pub record Makes {T E : Type 0} (change : Stored → Stored) (before after : Option Stored) (result : Result T E) : Type 0 where
  pub made : OnOk result (after ≡ option_map change before)
  pub kept : OnErr result (after ≡ before)

-- what is told of is listed
abbrev pub Lists : {E : Type 0} → Option Stored → Result Shelf E → Type 0
Lists holds result = IfOk result (λ shelf. IfSome holds (λ s. shelf ≡ shelf_of s))

-- both lists have rising ids
pub record Rises (shelf : Shelf) : Type 0 where
  pub full : RiseById shelf.full
  pub left : RiseById shelf.left
