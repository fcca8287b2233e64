-- The text of a message, computed.
use Rattle.std.specs.Prelude.{ℕ, ◌+◌, ◌-◌, ◌/◌, ◌%◌, ◌==◌, ◌&&◌, nat_le, if◌then◌else◌, Bool, List, [], ◌∷◌, ◌++◌, ℤ, pos, negsuc, length, take, drop, Option, Some, None, option_map, option_and_then}
use Rattle.std.specs.List.{list_all}
use Rattle.proto_wire.specs.Varint.{Number, varint_front}
use Rattle.token_text.specs.Arguments.{is_printable}
use Rattle.token_text.specs.Book.{Entry, format_of, token_of}
use Rattle.token_text.specs.Printing.{number_text, shown_text}
use Rattle.token_text.specs.declared.part.Part.{Part}
use Rattle.token_text.specs.declared.part.Part.TheVariants as part

-- the number that folds to this one
abbrev pub unfolded : ℕ → ℤ
unfolded n = if n % 2 == 0 then pos (n / 2) else negsuc (n / 2)

-- a text, whether it was cut, and the bytes behind it
pub record TextFront : Type 0 where
  pub text : List ℕ
  pub cut : Bool
  pub rest : List ℕ

-- so many bytes, if they are there and may be in a text
abbrev pub sized_text : ℕ → Bool → List ℕ → Option TextFront
sized_text size cut bytes =
    if nat_le size 127 && (nat_le size (length bytes) && list_all is_printable (take size bytes))
    then Some (record { text = take size bytes; cut = cut; rest = drop size bytes }) else None

-- the text at the front
abbrev pub text_front : List ℕ → Option TextFront
text_front [] = None
text_front (head ∷ bytes) = if nat_le 128 head then sized_text (head - 128) (nat_le 128 head) bytes else sized_text head (nat_le 128 head) bytes

-- what parts print of the arguments that these bytes spell
unfoldable pub printed : List Part → List ℕ → Option (List ℕ)
printed [] [] = Some []
printed [] (b ∷ bytes) = None
printed (part.Byte b ∷ ps) bytes = option_map (λ text. b ∷ text) (printed ps bytes)
printed (part.Number filled written ∷ ps) bytes =
    option_and_then (λ (r : Number). option_map (λ text. number_text filled written (unfolded r.value) ++ text) (printed ps r.rest)) (varint_front bytes)
printed (part.Text ∷ ps) bytes =
    option_and_then (λ (r : TextFront). option_map (λ text. shown_text r.text r.cut ++ text) (printed ps r.rest)) (text_front bytes)

-- the text of a message
unfoldable pub text_in : List Entry → List ℕ → Option (List ℕ)
text_in book message =
    if nat_le 4 (length message) then option_and_then (λ (format : Entry). printed format.parts (drop 4 message)) (format_of book (token_of message)) else None
