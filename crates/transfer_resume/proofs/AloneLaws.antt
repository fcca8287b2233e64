-- Each session moves as if it were alone.
use Rattle.std.proofs.Common.{◌≡◌, ℕ, ◌==◌, Bool, true, false, Option, Some, None, refl, ap, ◌⊎◌, inl, inr}
use Rattle.transfer_words.specs.Word.{Word, start, start_ack, confirmation, parameters, data_comes, completion, completion_ack}
use Rattle.transfer_words.specs.Spoken.{spoken, FitsChunk}
use Rattle.transfer_words.proofs.SpokenLaws.{says_again}
use Rattle.transfer_resume.specs.declared.stage.Stage.{Stage}
use Rattle.transfer_resume.specs.Session.{Service}
use Rattle.transfer_resume.specs.Hears.{session_hears, stage_hears}
use Rattle.transfer_resume.specs.Ticks.{stage_ticks, stage_stops}
use Rattle.transfer_resume.specs.Book.{Book, has_room, stage_of, word_step, chunk_step}
use Rattle.transfer_resume.specs.Alone.{MovesAlone}
use Rattle.transfer_resume.proofs.RowLemmas.{placed_own, placed_other, rows_moved}

-- a session that is there stays there
pub stays_there : (k : Service) (room : Bool) (state : Option Stage) (w : Word) → (state ≡ None) ⊎ ((s : Stage) × ((session_hears k room state w).after ≡ Some s))
stays_there k room None w = inl refl
stays_there k room (Some s) w = inr ((stage_hears k s w).after, refl)

abbrev word_or : Word → Option Word → Word
word_or other None = other
word_or other (Some w) = w

word_in : (w v : Word) → Some w ≡ Some v → w ≡ v
word_in w v e = ap (word_or w) e

heard : (b : Book) (id : ℕ) (w : Word) → (id == 0) ≡ false → FitsChunk w → chunk_step b (spoken id w) ≡ word_step b id w
heard b id (start resource offset) some fits = rw some refl
heard b id (start_ack offset) some fits = refl
heard b id (confirmation ask) some fits = ap (word_step b id) (word_in _ _ (says_again id (confirmation ask) fits))
heard b id (parameters ask) some fits = by_kind ask.again
  where
    by_kind : (again : Bool) → chunk_step b (spoken id (parameters (record ask { again = again }))) ≡ word_step b id (parameters (record ask { again = again }))
    by_kind true = ap (word_step b id) (word_in _ _ (says_again id (parameters (record ask { again = true })) fits))
    by_kind false = ap (word_step b id) (word_in _ _ (says_again id (parameters (record ask { again = false })) fits))
heard b id (data_comes p) some fits = ap (word_step b id) (word_in _ _ (says_again id (data_comes p) fits))
heard b id (completion status) some fits = ap (word_step b id) (word_in _ _ (says_again id (completion status) fits))
heard b id completion_ack some fits = refl

pub moves_alone : MovesAlone
moves_alone = record {
  heard = heard;
  own = λ b id w. placed_own id (stage_of id b.rows) (session_hears b.service (has_room b) (stage_of id b.rows) w).after b.rows refl (stays_there b.service (has_room b) (stage_of id b.rows) w);
  says = λ b id w. refl;
  others = λ b id k w other. placed_other id k (stage_of id b.rows) (session_hears b.service (has_room b) (stage_of id b.rows) w).after b.rows other;
  shared = λ b id w. refl;
  at_tick = λ b now id. rows_moved (stage_ticks b.service.side now) id b.rows;
  at_end = λ b id. rows_moved (stage_stops b.service.side) id b.rows;
}
