-- A book of formats, and the messages that it can print.
use Rattle.std.specs.Prelude.{◌≡◌, ℕ, ◌≤◌, ◌==◌, ◌&&◌, Bool, true, List, [], ◌∷◌, ◌++◌, length, take, drop, find, Option, Some, is_none}
use Rattle.byteorder.specs.Endian.{little_number, little_bytes}
use Rattle.token_text.specs.Arguments.{Argument}
use Rattle.token_text.specs.Spelling.{Spells, arguments_text}
use Rattle.token_text.specs.declared.part.Part.{Part}

-- a format: its token, and its parts
pub record Entry : Type 0 where
  pub token : ℕ
  pub parts : List Part

-- the format with this token, if it is among these
abbrev pub format_of : List Entry → ℕ → Option Entry
format_of book token = find (λ e. e.token == token) book

-- each token stands in the book once
abbrev pub has_own_tokens : List Entry → Bool
has_own_tokens [] = true
has_own_tokens (e ∷ book) = is_none (format_of book e.token) && has_own_tokens book

-- the token that a message begins with
abbrev pub token_of : List ℕ → ℕ
token_of message = little_number 4 (take 4 message)

-- the message is the token of a format of the book, and the spelling of its arguments
pub record IsMessage (book : List Entry) (message : List ℕ) (format : Entry) (args : List Argument) : Type 0 where
  pub long : 4 ≤ length message
  pub known : format_of book (token_of message) ≡ Some format
  pub spelled : Spells format.parts (drop 4 message) args

-- the message of a token and some arguments, as it is written
abbrev pub message_text : ℕ → List Argument → List ℕ
message_text token args = little_bytes 4 token ++ arguments_text args
