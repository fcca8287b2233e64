-- What a call of the transfer service makes of a word that is said to one of its sessions.
use Rattle.std.specs.Prelude.{◌≡◌, ℕ, ◌<◌, ◌==◌, ◌^◌, false}
use Rattle.rpc_handlers.specs.declared.event.Event.TheVariants.{Message}
use Rattle.transfer_words.specs.Word.{Word}
use Rattle.transfer_words.specs.Saying.{outs_of}
use Rattle.transfer_words.specs.Spoken.{text_in, FitsChunk}
use Rattle.transfer_resume.specs.Hears.{session_hears}
use Rattle.transfer_resume.specs.Book.{Book, has_room, stage_of, word_step}
use Rattle.demo_services.specs.DemoRule.{answer, next}
use Rattle.demo_services.specs.Transfer.{giving, transfer_memo}

-- The message that says a word in a session is answered with what the session's machine says, and moves the sessions by it.
pub record ServesSessions : Type 0 where
  pub answers :
      (b : Book) (session : ℕ) (w : Word) → session < 2 ^ 32 → (session == 0) ≡ false → FitsChunk w →
      answer (transfer_memo b) (Message (text_in session w)) ≡ giving (outs_of session (session_hears b.service (has_room b) (stage_of session b.rows) w).sayings)
  pub moves :
      (b : Book) (session : ℕ) (w : Word) → session < 2 ^ 32 → (session == 0) ≡ false → FitsChunk w →
      next (transfer_memo b) (Message (text_in session w)) ≡ transfer_memo (word_step b session w).after
