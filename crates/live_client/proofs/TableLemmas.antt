-- The two passes of a table.
use Rattle.std.proofs.Common.{◌≡◌, List, [], ◌∷◌, length, slice_index_or, arith}
use Rattle.std.specs.List.{remove}

pub two_of : {A : Type 0} (xs : List A) (a b : A) → length xs ≡ 2 → b ≡ slice_index_or xs 1 b → a ≡ slice_index_or (remove xs 1) 0 a → xs ≡ a ∷ b ∷ []
two_of [] a b two second first = absurd (omega (arith, two))
two_of (x ∷ []) a b two second first = absurd (omega (arith, two))
two_of (x ∷ y ∷ []) a b two second first = cc (second, first)
two_of (x ∷ y ∷ z ∷ xs) a b two second first = absurd (omega (arith, two))
