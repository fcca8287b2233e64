-- A number with a name, behind further words.
use Rattle.std.specs.Prelude.{◌≡◌, ℕ, ◌≤◌, List, [], ◌∷◌, ◌++◌, Option, Some, None}
use Rattle.std.specs.Fmt.{decimal}

-- the name and the number, if there is one
abbrev pub named_number : List ℕ → Option ℕ → List (List ℕ)
named_number name None = []
named_number name (Some number) = name ∷ decimal number ∷ []

-- from 1 to the most, if there is one
abbrev pub IsUpTo : ℕ → Option ℕ → Type 0
IsUpTo most None = Unit {0}
IsUpTo most (Some number) = (1 ≤ number) × (number ≤ most)

-- the words end with this name and one word more
abbrev pub EndsWithName : List ℕ → List (List ℕ) → List ℕ → List (List ℕ) → Type 0
EndsWithName name front last words = words ≡ front ++ name ∷ last ∷ []

abbrev pub EndsOtherwise : List ℕ → List (List ℕ) → Type 0
EndsOtherwise name words = (front : List (List ℕ)) (last : List ℕ) → EndsWithName name front last words → ⊥
