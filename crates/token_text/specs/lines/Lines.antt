-- Lines of formats and messages, and what is printed of them.
use Rattle.std.specs.Prelude.{◌≡◌, ℕ, suc, ◌+◌, ◌<◌, ◌≤◌, ◌⊎◌, List, [], ◌∷◌, ◌++◌, length, drop, codes, Some, IsSome, IsNone}
use Rattle.std.specs.Fmt.{decimal}
use Rattle.std.specs.Int.{to_be_bytes, w32}
use Rattle.hex.specs.Hex.{IsBytes, encode_lower}
use Rattle.rpc_ids.specs.Names.{name_id}
use Rattle.token_text.specs.Arguments.{Argument}
use Rattle.token_text.specs.Book.{Entry, IsMessage, format_of, token_of}
use Rattle.token_text.specs.Format.{IsFormat}
use Rattle.token_text.specs.Printing.{text_of}
use Rattle.token_text.specs.Steps.{IsNoMessageAt}
use Rattle.token_text.specs.declared.part.Part.{Part}

-- a line with a format
abbrev pub format_line : List ℕ → List ℕ
format_line format = codes "format " ++ format

-- a line with a message in hexadecimal digits
pub record IsMessageLine (line message : List ℕ) : Type 0 where
  pub bytes : IsBytes message
  pub spelled : line ≡ codes "text " ++ encode_lower message

-- what is printed of a message: its text, or why it has none
pub data IsAnswer : List Entry → List ℕ → List ℕ → Type 0 where
  has_text : (book : List Entry) (message : List ℕ) (format : Entry) (args : List Argument) → IsMessage book message format args →
      IsAnswer book message (text_of format.parts args)
  is_short : (book : List Entry) (message : List ℕ) → length message < 4 → IsAnswer book message (codes "? short")
  is_unknown : (book : List Entry) (message : List ℕ) → 4 ≤ length message → IsNone (format_of book (token_of message)) →
      IsAnswer book message (codes "? unknown " ++ encode_lower (to_be_bytes w32 (token_of message)))
  is_wrong : (book : List Entry) (message : List ℕ) (format : Entry) (at : ℕ) → format_of book (token_of message) ≡ Some format →
      IsNoMessageAt format.parts (drop 4 message) at → IsAnswer book message (codes "? wrong " ++ decimal at)

-- The lines are messages, and this is printed of them by the formats of the book, each answer in a line.
pub data ArePrinted : List Entry → List (List ℕ) → List ℕ → Type 0 where
  no_lines : (book : List Entry) → ArePrinted book [] []
  one_message : (book : List Entry) (line message answer : List ℕ) (lines : List (List ℕ)) (more : List ℕ) → IsMessageLine line message →
      IsAnswer book message answer → ArePrinted book lines more → ArePrinted book (line ∷ lines) (answer ++ 10 ∷ more)

-- the book with a format that may be added
pub record Adds (book : List Entry) (format : List ℕ) (after : List Entry) : Type 0 where
  pub parts : List Part
  pub well : IsFormat format parts
  pub new : IsNone (format_of book (name_id format))
  pub added : after ≡ book ++ (record { token = name_id format; parts = parts }) ∷ []

-- The lines are formats that come into the book, and then messages, of which this is printed.
pub data IsPrinted : List Entry → List (List ℕ) → List ℕ → Type 0 where
  then_messages : (book : List Entry) (lines : List (List ℕ)) (printed : List ℕ) → ArePrinted book lines printed → IsPrinted book lines printed
  one_format : (book after : List Entry) (format : List ℕ) (lines : List (List ℕ)) (printed : List ℕ) → Adds book format after →
      IsPrinted after lines printed → IsPrinted book (format_line format ∷ lines) printed

-- How many messages stand in front of the first line that is none.
pub data HasNoMessageAt : List (List ℕ) → ℕ → Type 0 where
  stray_line : (line : List ℕ) (lines : List (List ℕ)) → ((message : List ℕ) → IsMessageLine line message → ⊥) → HasNoMessageAt (line ∷ lines) 0
  behind_message : (line message : List ℕ) (lines : List (List ℕ)) (k : ℕ) → IsMessageLine line message → HasNoMessageAt lines k → HasNoMessageAt (line ∷ lines) (suc k)

-- the text is no format, or one with its token is in
abbrev pub MayNotAdd : List Entry → List ℕ → Type 0
MayNotAdd book format = ((parts : List Part) → IsFormat format parts → ⊥) ⊎ IsSome (format_of book (name_id format))

-- the first line has no format
abbrev pub BeginsWithNoFormat : List (List ℕ) → Type 0
BeginsWithNoFormat [] = Unit {0}
BeginsWithNoFormat (line ∷ lines) = (format : List ℕ) → line ≡ format_line format → ⊥

-- How many good lines stand in front of the first bad one.
pub data HasBadLine : List Entry → List (List ℕ) → ℕ → Type 0 where
  bad_message : (book : List Entry) (lines : List (List ℕ)) (k : ℕ) → BeginsWithNoFormat lines → HasNoMessageAt lines k → HasBadLine book lines k
  bad_format : (book : List Entry) (format : List ℕ) (lines : List (List ℕ)) → MayNotAdd book format → HasBadLine book (format_line format ∷ lines) 0
  behind_format : (book after : List Entry) (format : List ℕ) (lines : List (List ℕ)) (k : ℕ) → Adds book format after → HasBadLine after lines k →
      HasBadLine book (format_line format ∷ lines) (suc k)
