-- The method Text of the service demo.Log.
use Rattle.std.specs.Prelude.{◌≡◌, refl, ℕ, List, [], ◌∷◌, map, if◌then◌else◌, codes, Option, Some, None}
use Rattle.hex.specs.Hex.{encode_lower}
use Rattle.rpc_ids.specs.Names.{name_id}
use Rattle.rpc_ids.specs.declared.status.Status.TheVariants.{Okay}
use Rattle.rpc_handlers.specs.declared.answer.Answer.{Answer}
use Rattle.rpc_handlers.specs.declared.event.Event.{Event}
use Rattle.rpc_handlers.specs.declared.event.Event.TheVariants.{Message, Completion}
use Rattle.rpc_handlers.specs.Limits.{is_long}
use Rattle.token_text.specs.Book.{Entry}
use Rattle.token_text.specs.Computed.{text_in}
use Rattle.token_text.specs.declared.part.Notation.TheVariants.{Signed, Unsigned, Hexadecimal}
use Rattle.token_text.specs.declared.part.Padding.TheVariants.{Bare}
use Rattle.token_text.specs.declared.part.Part.{Part}
use Rattle.token_text.specs.declared.part.Part.TheVariants as part
use Rattle.demo_services.specs.Answers.{empty_answer, says, ends, too_long}

-- a format of one part
abbrev pub one_part : List ℕ → Part → Entry
one_part format p = record { token = name_id format; parts = p ∷ [] }

-- the formats of the service: a letter, a number in each notation, and a text
abbrev pub log_book : List Entry
log_book =
    one_part (codes "a") (part.Byte 97) ∷ one_part (codes "%d") (part.Number Bare Signed) ∷ one_part (codes "%u") (part.Number Bare Unsigned)
    ∷ one_part (codes "%x") (part.Number Bare Hexadecimal) ∷ one_part (codes "%s") part.Text ∷ []

-- a message whose text isn't known: a question mark, and its bytes in lower-case hexadecimal digits
abbrev pub untold : List ℕ → List ℕ
untold message = 63 ∷ encode_lower message

abbrev pub line_by : List ℕ → Option (List ℕ) → List ℕ
line_by message (Some text) = text
line_by message None = untold message

-- what is said of a message: the text that it has by the formats of the service, or its bytes
abbrev pub log_line : List ℕ → List ℕ
log_line message = line_by message (text_in log_book message)

abbrev pub said_or_refused : List ℕ → Answer
said_or_refused line = if is_long line then too_long else says line

-- Text says the text of each message, where it is short enough, and ends its call at the completion
abbrev pub log_answer : Event → Answer
log_answer (Message payload) = said_or_refused (log_line payload)
log_answer Completion = ends Okay []
log_answer _ = empty_answer

-- the tokens of the formats, as a device sends them
tokens_of_the_formats : map (λ (e : Entry). e.token) log_book ≡ 0x6117e0 ∷ 0x31631781 ∷ 0x39c21f12 ∷ 0x3b3c4d95 ∷ 0x38c60010 ∷ []
unfolding name_id
tokens_of_the_formats = refl
