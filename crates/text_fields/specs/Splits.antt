-- The fields of a text.
use Rattle.std.specs.Prelude.{◌≡◌, ◌≢◌, ℕ, List, ◌∷◌, ◌++◌, All}

-- the byte is nowhere in the text
abbrev pub Lacks : ℕ → List ℕ → Type 0
Lacks byte text = All (λ b. b ≢ byte) text

-- the field in front of the first separator, and what stands behind that separator
pub record IsSplitAt (separator : ℕ) (text front rest : List ℕ) : Type 0 where
  pub spelled : text ≡ front ++ separator ∷ rest
  pub first : Lacks separator front
