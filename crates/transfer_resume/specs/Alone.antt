-- Each session moves as if it were alone.
use Rattle.std.specs.Prelude.{◌≡◌, ℕ, ◌==◌, false, Option, option_map}
use Rattle.transfer_words.specs.Word.{Word}
use Rattle.transfer_words.specs.Saying.{Stepped}
use Rattle.transfer_words.specs.Spoken.{spoken, FitsChunk}
use Rattle.transfer_resume.specs.declared.stage.Stage.{Stage}
use Rattle.transfer_resume.specs.Hears.{session_hears}
use Rattle.transfer_resume.specs.Ticks.{stage_ticks, stage_stops}
use Rattle.transfer_resume.specs.Book.{Book, has_room, in_session, stage_of, word_step, chunk_step, tick_step, end_step}

-- where a session stands then, if it is there
abbrev pub moved_by : (Stage → Stepped Stage) → Option Stage → Option Stage
moved_by f state = option_map (λ s. (f s).after) state

pub record MovesAlone : Type 0 where
  -- the chunk that says a word in a session is that word for that session
  pub heard : (b : Book) (id : ℕ) (w : Word) → (id == 0) ≡ false → FitsChunk w → chunk_step b (spoken id w) ≡ word_step b id w
  -- a word for a session moves it by its machine,
  pub own : (b : Book) (id : ℕ) (w : Word) → stage_of id (word_step b id w).after.rows ≡ (session_hears b.service (has_room b) (stage_of id b.rows) w).after
  -- says just what its machine says, in that session,
  pub says : (b : Book) (id : ℕ) (w : Word) → (word_step b id w).outs ≡ in_session id (session_hears b.service (has_room b) (stage_of id b.rows) w).sayings
  -- and leaves each other session, and what all share
  pub others : (b : Book) (id k : ℕ) (w : Word) → (k == id) ≡ false → stage_of k (word_step b id w).after.rows ≡ stage_of k b.rows
  pub shared : (b : Book) (id : ℕ) (w : Word) → (word_step b id w).after.service ≡ b.service
  -- at a tick and at the end of the call each session moves by its own machine
  pub at_tick : (b : Book) (now id : ℕ) → stage_of id (tick_step b now).after.rows ≡ moved_by (stage_ticks b.service.side now) (stage_of id b.rows)
  pub at_end : (b : Book) (id : ℕ) → stage_of id (end_step b).after.rows ≡ moved_by (stage_stops b.service.side) (stage_of id b.rows)
