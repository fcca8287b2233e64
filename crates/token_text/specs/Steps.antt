-- One part of a format, printed.
use Rattle.std.specs.Prelude.{◌≡◌, ℕ, ◌+◌, ◌≤◌, List, [], ◌∷◌, length}
use Rattle.token_text.specs.Arguments.{Argument}
use Rattle.token_text.specs.Printing.{prints}
use Rattle.token_text.specs.Spelling.{StartsWith, HasNoArgument, IsWrongAt}
use Rattle.token_text.specs.declared.part.Part.{Part}
use Rattle.token_text.specs.declared.part.Part.TheVariants as part

-- the one argument of this part at the front of some bytes
pub record Reads (p : Part) (bytes rest : List ℕ) (a : Argument) : Type 0 where
  pub first : StartsWith p bytes a rest
  pub only : (b : Argument) (behind : List ℕ) → StartsWith p bytes b behind → (b ≡ a) × (behind ≡ rest)
  pub short : length bytes ≤ length rest + 128

-- the part prints this text, with its argument at the front of the bytes, if it takes one
abbrev pub ReadsOne : Part → List ℕ → List ℕ → List ℕ → Type 0
ReadsOne (part.Byte b) bytes rest printed = (rest ≡ bytes) × (printed ≡ b ∷ [])
ReadsOne p bytes rest printed = (a : Argument) × Reads p bytes rest a × (printed ≡ prints p a)

-- the part takes an argument, which can't be read
abbrev pub CannotRead : Part → List ℕ → Type 0
CannotRead (part.Byte b) bytes = ⊥
CannotRead p bytes = HasNoArgument p bytes

-- the arguments behind a token of four bytes can't be read from this offset of the message on
abbrev pub IsNoMessageAt : List Part → List ℕ → ℕ → Type 0
IsNoMessageAt ps bytes at = (behind : ℕ) × (at ≡ 4 + behind) × IsWrongAt ps bytes behind
