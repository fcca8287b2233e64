-- What the log service says, by the relation of messages and their texts.
use Rattle.std.specs.Prelude.{◌≡◌, ℕ, List, false}
use Rattle.rpc_handlers.specs.declared.event.Event.TheVariants.{Message}
use Rattle.rpc_handlers.specs.Limits.{is_long}
use Rattle.token_text.specs.Arguments.{Argument}
use Rattle.token_text.specs.Book.{Entry, IsMessage}
use Rattle.token_text.specs.Printing.{text_of}
use Rattle.demo_services.specs.Answers.{says}
use Rattle.demo_services.specs.Log.{log_answer, log_book, untold}

-- A message that is a token of a format and its arguments is answered with what the format prints of them, and any other
-- with its bytes, where that isn't too long.
pub record TellsTexts : Type 0 where
  pub text :
      (message : List ℕ) (format : Entry) (args : List Argument) → IsMessage log_book message format args →
      is_long (text_of format.parts args) ≡ false → log_answer (Message message) ≡ says (text_of format.parts args)
  pub bytes :
      (message : List ℕ) → ((format : Entry) (args : List Argument) → IsMessage log_book message format args → ⊥) →
      is_long (untold message) ≡ false → log_answer (Message message) ≡ says (untold message)
