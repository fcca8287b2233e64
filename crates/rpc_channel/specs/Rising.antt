-- A set of numbers as the list of them in rising order.
use Rattle.std.specs.Prelude.{◌≡◌, ℕ, ◌<◌, Bool, false, not, nat_lt, ◌==◌, List, [], ◌∷◌, ◌++◌, filter, length}
use Rattle.std.specs.List.{AllByRecursion, list_any}

-- each number is below all later ones
abbrev pub IsRising : List ℕ → Type 0
IsRising [] = Unit {0}
IsRising (x ∷ xs) = AllByRecursion (λ y. x < y) xs × IsRising xs

-- the number is among these
abbrev pub has_id : List ℕ → ℕ → Bool
has_id xs id = list_any (λ x. x == id) xs

-- the smaller numbers, this one, and the larger ones
abbrev pub with_id : ℕ → List ℕ → List ℕ
with_id id xs = filter (λ x. nat_lt x id) xs ++ id ∷ filter (λ x. nat_lt id x) xs

-- all numbers but this one
abbrev pub without_id : ℕ → List ℕ → List ℕ
without_id id xs = filter (λ x. not (x == id)) xs

-- 64 others are there
abbrev pub IsFullFor : ℕ → List ℕ → Type 0
IsFullFor id xs = (has_id xs id ≡ false) × (length xs ≡ 64)
