-- How the sessions of a call stand, whatever comes to it, and what those of Read do with the store.
use Rattle.std.specs.Prelude.{◌≡◌, ℕ, ◌<◌, List, [], ◌∷◌, Some}
use Rattle.std.specs.List.{AllByRecursion}
use Rattle.link_io.specs.declared.Shelf.{Shelf}
use Rattle.rpc_ids.specs.declared.Status.{Status}
use Rattle.transfer_words.specs.Saying.{says}
use Rattle.transfer_words.specs.Word.{Word}
use Rattle.transfer_resume.specs.declared.side.Side.{Side}
use Rattle.transfer_resume.specs.declared.side.Side.TheVariants.{Read}
use Rattle.transfer_resume.specs.declared.stage.Stage.{Stage}
use Rattle.transfer_resume.specs.declared.stage.Stage.TheVariants as stage
use Rattle.transfer_resume.specs.Session.{Row}
use Rattle.transfer_resume.specs.Book.{Book, Outgoing, new_book, stage_of, end_step}
use Rattle.transfer_resume.specs.Uploads.{Comes, step_at, outs_over}

-- all sessions behind all that comes
abbrev pub book_over : Book → List Comes → Book
book_over b [] = b
book_over b (e ∷ es) = book_over (step_at b e).after es

-- each id is below all behind it
abbrev pub AreRising : List Row → Type 0
AreRising [] = Unit {0}
AreRising (r ∷ rows) = AllByRecursion (λ later. r.id < later.id) rows × AreRising rows

-- the sessions of a call stand by rising id
abbrev pub RowsRise : Type 0
RowsRise = (side : Side) (shelf : Shelf) (window chunk : ℕ) (es : List Comes) → AreRising (book_over (new_book side shelf window chunk) es).rows

abbrev pub IsOver : Stage → Type 0
IsOver s = (status : Status) × (s ≡ stage.Ended status)

-- behind the end of the call each session has ended
abbrev pub EndsEndAll : Type 0
EndsEndAll = (b : Book) → AllByRecursion (λ r. IsOver r.stage) (end_step b).after.rows

-- a session that has ended stays so
abbrev pub EndedStaysEnded : Type 0
EndedStaysEnded =
    (b : Book) (es : List Comes) (id : ℕ) (status : Status)
    → stage_of id b.rows ≡ Some (stage.Ended status) → stage_of id (book_over b es).rows ≡ Some (stage.Ended status)

-- it is a word, and no store action
abbrev pub IsSaid : Outgoing → Type 0
IsSaid o = (w : Word) × (o.saying ≡ says w)

-- a call of Read has no store action
abbrev pub ReadsStoreNothing : Type 0
ReadsStoreNothing = (shelf : Shelf) (window chunk : ℕ) (es : List Comes) → AllByRecursion IsSaid (outs_over (new_book Read shelf window chunk) es)
