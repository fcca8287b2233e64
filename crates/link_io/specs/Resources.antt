-- Resources by their ids.
use Rattle.std.specs.Prelude.{◌≡◌, ℕ, ◌==◌, List, [], ◌∷◌, map, length, Option, None}
use Rattle.std.specs.Ordering.{nat_cmp}
use Rattle.std.specs.List.Sorted.{IsStrictlyIncreasing}
use Rattle.std.specs.Map.{keys_of, lookup, remove_entry}
use Rattle.std.specs.BTreeMap.{insert_entry, is_at}

-- resources with their bytes, by rising id
abbrev pub Resources : Type 0
Resources = List (ℕ × List ℕ)

-- what a list has of a resource; where it stands there twice, the first counts
abbrev pub first_of : {X : Type 0} → ℕ → List (ℕ × X) → Option X
first_of resource rows = lookup (λ id. id == resource) rows

-- the bytes of a resource, if it is there
abbrev pub found : ℕ → Resources → Option (List ℕ)
found resource rows = lookup (is_at (nat_cmp resource)) rows

abbrev pub with_resource : ℕ → List ℕ → Resources → Resources
with_resource resource bytes rows = insert_entry nat_cmp rows resource bytes

abbrev pub without_resource : ℕ → Resources → Resources
without_resource resource rows = remove_entry (is_at (nat_cmp resource)) rows

-- resources put in one after another
abbrev pub with_resources : Resources → Resources → Resources
with_resources [] rows = rows
with_resources (e ∷ es) rows = with_resources es (with_resource e.0 e.1 rows)

-- no resource stands twice in the list
abbrev pub IsOnce : Resources → Type 0
IsOnce [] = Unit {0}
IsOnce (e ∷ es) = (found e.0 es ≡ None) × IsOnce es

abbrev pub lengths_of : Resources → List (ℕ × ℕ)
lengths_of rows = map (λ e. (e.0, length e.1)) rows

-- each id is below the next
abbrev pub RiseById : {X : Type 0} → List (ℕ × X) → Type 0
RiseById rows = IsStrictlyIncreasing (keys_of rows)
