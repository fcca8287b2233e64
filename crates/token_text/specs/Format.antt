-- Formats: their parts, and how these are written.
use Rattle.std.specs.Prelude.{◌≡◌, ◌≢◌, ℕ, ◌+◌, ◌≤◌, ◌==◌, if◌then◌else◌, Bool, true, false, not, List, [], ◌∷◌, ◌++◌, length, All}
use Rattle.std.specs.Char.{is_ascii_digit}
use Rattle.std.specs.Fmt.{decimal}
use Rattle.token_text.specs.declared.part.Notation.{Notation}
use Rattle.token_text.specs.declared.part.Notation.TheVariants as notation
use Rattle.token_text.specs.declared.part.Padding.{Padding}
use Rattle.token_text.specs.declared.part.Padding.TheVariants as padding
use Rattle.token_text.specs.declared.part.Part.{Part}
use Rattle.token_text.specs.declared.part.Part.TheVariants as part

-- a byte of a format, and of a text that is an argument
abbrev pub IsPrintable : ℕ → Type 0
IsPrintable b = (32 ≤ b) × (b ≤ 126)

abbrev pub percent : ℕ
percent = 37

-- `d`, `u` or `x`
abbrev pub letter : Notation → ℕ
letter notation.Signed = 100
letter notation.Unsigned = 117
letter notation.Hexadecimal = 120

-- nothing, a width, or a zero and a width
abbrev pub padding_text : Padding → List ℕ
padding_text padding.Bare = []
padding_text (padding.Spaces width) = decimal width
padding_text (padding.Zeros width) = 48 ∷ decimal width

-- how a part is written in a format
abbrev pub part_text : Part → List ℕ
part_text (part.Byte b) = if b == percent then percent ∷ percent ∷ [] else b ∷ []
part_text (part.Number filled written) = percent ∷ (padding_text filled ++ letter written ∷ [])
part_text part.Text = percent ∷ 115 ∷ []

abbrev pub IsWidth : ℕ → Type 0
IsWidth width = (1 ≤ width) × (width ≤ 20)

abbrev pub IsPadding : Padding → Type 0
IsPadding padding.Bare = Unit {0}
IsPadding (padding.Spaces width) = IsWidth width
IsPadding (padding.Zeros width) = IsWidth width

-- a byte behind the digits of a width
abbrev pub is_no_digit : ℕ → Bool
is_no_digit b = not (is_ascii_digit b)

-- a part that a format may have
abbrev pub IsPart : Part → Type 0
IsPart (part.Byte b) = IsPrintable b
IsPart (part.Number filled written) = IsPadding filled
IsPart part.Text = Unit {0}

-- a part that takes an argument
abbrev pub is_argument : Part → Bool
is_argument (part.Byte b) = false
is_argument (part.Number filled written) = true
is_argument part.Text = true

abbrev pub counted : Bool → ℕ
counted b = if b then 1 else 0

-- how many arguments some parts take
abbrev pub arguments : List Part → ℕ
arguments [] = 0
arguments (p ∷ ps) = counted (is_argument p) + arguments ps

-- parts one after another
abbrev pub format_text : List Part → List ℕ
format_text [] = []
format_text (p ∷ ps) = part_text p ++ format_text ps

-- the text is these parts, which with so many arguments before them take at most 16
pub record HasParts (before : ℕ) (text : List ℕ) (parts : List Part) : Type 0 where
  pub spelled : text ≡ format_text parts
  pub allowed : All IsPart parts
  pub few : before + arguments parts ≤ 16

-- a format of these parts
pub record IsFormat (text : List ℕ) (parts : List Part) : Type 0 where
  pub parts_are : HasParts 0 text parts
  pub short : length text ≤ 256

-- each part that stands at the front is an argument behind 16 others
abbrev pub HasNoPart : ℕ → List ℕ → Type 0
HasNoPart before text = (p : Part) (rest : List ℕ) → IsPart p → text ≡ part_text p ++ rest → (is_argument p ≡ true) × (before ≡ 16)

-- In this text, behind so many arguments, the first part that isn't allowed begins at this offset.
pub data HasWrongPart : ℕ → List ℕ → ℕ → Type 0 where
  here : (before : ℕ) (text : List ℕ) → text ≢ [] → HasNoPart before text → HasWrongPart before text 0
  later : (before : ℕ) (p : Part) (rest : List ℕ) (at : ℕ) → IsPart p → before + counted (is_argument p) ≤ 16 →
      HasWrongPart (before + counted (is_argument p)) rest at → HasWrongPart before (part_text p ++ rest) (length (part_text p) + at)

-- where a text fails to be a format: at the first part that isn't allowed, or at 256 where only its length is wrong
pub data IsNoFormat : List ℕ → ℕ → Type 0 where
  wrong : (text : List ℕ) (at : ℕ) → HasWrongPart 0 text at → IsNoFormat text at
  long : (text : List ℕ) (parts : List Part) → HasParts 0 text parts → 257 ≤ length text → IsNoFormat text 256
