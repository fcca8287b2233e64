-- Lists of entries, each of which has the number of its maker.
-- One list begins with another where `IsPrefix` of mathlib's lists holds.
use Rattle.std.specs.Prelude.{◌≡◌, ℕ, ◌==◌, List, ◌++◌}
use Rattle.std.specs.List.{filter, AllByRecursion}

module _ {E : Type 0} (maker : E → ℕ) (number : ℕ) where
  -- the entries that the maker with this number made, in order
  abbrev pub made_by : List E → List E
  made_by entries = filter (λ e. maker e == number) entries

  -- the maker with this number made each of the entries
  abbrev pub AllBy : List E → Type 0
  AllBy entries = AllByRecursion (λ e. maker e ≡ number) entries

  -- whole is seen, and then entries of the maker with this number
  pub record GoesOn (seen whole : List E) : Type 0 where
    pub added : List E
    pub whole_is : whole ≡ seen ++ added
    pub by_maker : AllBy added
