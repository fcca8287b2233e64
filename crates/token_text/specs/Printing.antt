-- What the parts of a format print.
use Rattle.std.specs.Prelude.{ℕ, ◌+◌, ◌-◌, if◌then◌else◌, Bool, false, List, [], ◌∷◌, ◌++◌, ℤ, length, replicate, unsigned_abs, codes}
use Rattle.std.specs.Fmt.{decimal, digits, sign_text}
use Rattle.std.specs.Int.{cast_unsigned, is_negative, w64}
use Rattle.token_text.specs.Arguments.{Argument, Number, Text}
use Rattle.token_text.specs.declared.part.Notation.{Notation}
use Rattle.token_text.specs.declared.part.Notation.TheVariants as notation
use Rattle.token_text.specs.declared.part.Padding.{Padding}
use Rattle.token_text.specs.declared.part.Padding.TheVariants as padding
use Rattle.token_text.specs.declared.part.Part.{Part}
use Rattle.token_text.specs.declared.part.Part.TheVariants as part

-- only `d` writes a sign
abbrev pub sign_of : Notation → ℤ → List ℕ
sign_of notation.Signed n = sign_text (is_negative n)
sign_of notation.Unsigned n = []
sign_of notation.Hexadecimal n = []

-- the digits of a number: of its absolute value, or of its value modulo 2^64
abbrev pub digits_of : Notation → ℤ → List ℕ
digits_of notation.Signed n = decimal (unsigned_abs n)
digits_of notation.Unsigned n = decimal (cast_unsigned w64 n)
digits_of notation.Hexadecimal n = digits 16 false (cast_unsigned w64 n)

-- the widths that are filled up with spaces and with zeros
abbrev pub spaces_of : Padding → ℕ
spaces_of padding.Bare = 0
spaces_of (padding.Spaces width) = width
spaces_of (padding.Zeros width) = 0

abbrev pub zeros_of : Padding → ℕ
zeros_of padding.Bare = 0
zeros_of (padding.Spaces width) = 0
zeros_of (padding.Zeros width) = width

-- what a sign and digits lack to the width: spaces stand in front of the sign, and zeros behind it
abbrev pub filled_up : Padding → List ℕ → List ℕ → List ℕ
filled_up filled sign digits =
    let size = length sign + length digits in
    replicate (spaces_of filled - size) 32 ++ (sign ++ (replicate (zeros_of filled - size) 48 ++ digits))

abbrev pub number_text : Padding → Notation → ℤ → List ℕ
number_text filled written n = filled_up filled (sign_of written n) (digits_of written n)

-- what stands behind a text that was cut
abbrev pub cut_mark : List ℕ
cut_mark = codes "[...]"

abbrev pub shown_text : List ℕ → Bool → List ℕ
shown_text bytes cut = bytes ++ (if cut then cut_mark else [])

-- what a part prints of its argument
abbrev pub prints : Part → Argument → List ℕ
prints (part.Number filled written) (Number n) = number_text filled written n
prints part.Text (Text bytes cut) = shown_text bytes cut
prints p a = []

-- what the parts of a format print, with these arguments in order
abbrev pub text_of : List Part → List Argument → List ℕ
text_of [] args = []
text_of (part.Byte b ∷ ps) args = b ∷ text_of ps args
text_of (p ∷ ps) [] = []
text_of (p ∷ ps) (a ∷ args) = prints p a ++ text_of ps args
