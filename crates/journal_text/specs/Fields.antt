-- A field, and what stands behind it.
use Rattle.std.specs.Prelude.{◌≡◌, ℕ, List, [], ◌∷◌, ◌++◌, Option, Some, None}
use Rattle.std.specs.Borrow.{Bor}
use Rattle.text_fields.specs.Splits.{Lacks}

-- the blank and the rest of a text behind a field, or nothing
abbrev pub behind : Option (Bor (List ℕ)) → List ℕ
behind None = []
behind (Some rest) = 32 ∷ rest.now

-- the field has no blank
pub record IsFirstField (text field rest : List ℕ) : Type 0 where
  pub spelled : text ≡ field ++ rest
  pub lacks : Lacks 32 field
