-- The arguments of a message.
use Rattle.std.specs.Prelude.{ℕ, ◌&&◌, nat_le, if◌then◌else◌, Bool, true, false, List, [], ◌∷◌, ℤ, length, take, map}
use Rattle.std.specs.List.{list_all}
use Rattle.token_text.specs.declared.argument.Arg.{Arg}
use Rattle.token_text.specs.declared.argument.Arg.TheVariants as arg
use Rattle.token_text.specs.declared.part.Part.{Part}
use Rattle.token_text.specs.declared.part.Part.TheVariants as part

-- an argument as a message has it: a text says whether it was cut
pub data Argument : Type 0 where
  Number : (n : ℤ) → Argument
  Text : (bytes : List ℕ) (cut : Bool) → Argument

-- a text of up to 127 bytes whole, and a longer one as its first 127, with the mark that it was cut
abbrev pub argument_of : Arg → Argument
argument_of (arg.Number n) = Number n
argument_of (arg.Text bytes) = if nat_le (length bytes) 127 then Text bytes false else Text (take 127 bytes) true

abbrev pub arguments_of : List Arg → List Argument
arguments_of args = map argument_of args

abbrev pub is_printable : ℕ → Bool
is_printable b = nat_le 32 b && nat_le b 126

-- the part takes the argument
abbrev pub accepts : Part → Arg → Bool
accepts (part.Number filled written) (arg.Number n) = true
accepts part.Text (arg.Text bytes) = list_all is_printable bytes
accepts p a = false

-- the parts take just these arguments
abbrev pub fits : List Part → List Arg → Bool
fits [] [] = true
fits [] (a ∷ args) = false
fits (part.Byte b ∷ ps) args = fits ps args
fits (p ∷ ps) [] = false
fits (p ∷ ps) (a ∷ args) = accepts p a && fits ps args
