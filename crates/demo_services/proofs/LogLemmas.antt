-- The formats of the log service, and the texts of its messages.
use Rattle.std.proofs.Common.{◌≡◌, ℕ, false, List, [], ◌∷◌, ◌++◌, Option, Some, None, IsNone, refl, ap, sym, ◌∙◌, subst, arith, codes}
use Rattle.std.proofs.lemmas.List.Elements.{All-nil, All-cons}
use Rattle.rpc_handlers.specs.Limits.{is_long}
use Rattle.token_text.specs.Arguments.{Argument}
use Rattle.token_text.specs.Book.{Entry, IsMessage, format_of}
use Rattle.token_text.specs.Format.{IsFormat, IsPart}
use Rattle.token_text.specs.Computed.{text_in}
use Rattle.token_text.specs.Printing.{text_of}
use Rattle.token_text.proofs.PrintedLaws.{text_of_message, message_of_text}
use Rattle.token_text.specs.declared.part.Notation.TheVariants.{Signed, Unsigned, Hexadecimal}
use Rattle.token_text.specs.declared.part.Padding.TheVariants.{Bare}
use Rattle.token_text.specs.declared.part.Part.TheVariants as part
use Rattle.demo_services.specs.Answers.{says}
use Rattle.demo_services.specs.Log.{log_book, log_line, line_by, said_or_refused, untold}
use Rattle.demo_services.specs.LogLaws.{TellsTexts}

pub letter_format : IsFormat (codes "a") (part.Byte 97 ∷ [])
letter_format = record {
  parts_are = record { spelled = refl; allowed = All-cons IsPart (part.Byte 97) [] (omega arith, omega arith) (All-nil IsPart); few = omega arith };
  short = omega arith;
}

pub signed_format : IsFormat (codes "%d") (part.Number Bare Signed ∷ [])
signed_format = record {
  parts_are = record { spelled = refl; allowed = All-cons IsPart (part.Number Bare Signed) [] tt (All-nil IsPart); few = omega arith };
  short = omega arith;
}

pub unsigned_format : IsFormat (codes "%u") (part.Number Bare Unsigned ∷ [])
unsigned_format = record {
  parts_are = record { spelled = refl; allowed = All-cons IsPart (part.Number Bare Unsigned) [] tt (All-nil IsPart); few = omega arith };
  short = omega arith;
}

pub hexadecimal_format : IsFormat (codes "%x") (part.Number Bare Hexadecimal ∷ [])
hexadecimal_format = record {
  parts_are = record { spelled = refl; allowed = All-cons IsPart (part.Number Bare Hexadecimal) [] tt (All-nil IsPart); few = omega arith };
  short = omega arith;
}

pub text_format : IsFormat (codes "%s") (part.Text ∷ [])
text_format = record {
  parts_are = record { spelled = refl; allowed = All-cons IsPart part.Text [] tt (All-nil IsPart); few = omega arith };
  short = omega arith;
}

-- a book grows by a format at its end
pub grown : (old new first : List Entry) (e : Entry) → old ≡ first → new ≡ old ++ e ∷ [] → new ≡ first ++ e ∷ []
grown old new first e same added = added ∙ ap (λ book. book ++ e ∷ []) same

pub new_token : (book first : List Entry) (token : ℕ) → book ≡ first → IsNone (format_of first token) → IsNone (format_of book token)
new_token book first token same none = subst (λ b. IsNone (format_of b token)) (sym same) none

-- a message by these formats has its text as line
pub line_of_text : (message : List ℕ) (format : Entry) (args : List Argument) → IsMessage log_book message format args → log_line message ≡ text_of format.parts args
line_of_text message format args is = ap (line_by message) (text_of_message log_book message format args is)

-- and what is no message its bytes
pub line_of_bytes : (message : List ℕ) → ((format : Entry) (args : List Argument) → IsMessage log_book message format args → ⊥) → log_line message ≡ untold message
line_of_bytes message none = at (text_in log_book message) refl
  where
    at : (found : Option (List ℕ)) → text_in log_book message ≡ found → line_by message found ≡ untold message
    at None is = refl
    at (Some text) is = let r = message_of_text log_book message text is in absurd (none r.0 r.1 r.2)

short_line : (line text : List ℕ) → line ≡ text → is_long text ≡ false → said_or_refused line ≡ says text
short_line line text same short = rw (same, short) refl

pub tells_texts : TellsTexts
tells_texts = record {
  text = λ message format args is short. short_line (log_line message) (text_of format.parts args) (line_of_text message format args is) short;
  bytes = λ message none short. short_line (log_line message) (untold message) (line_of_bytes message none) short;
}
