-- The sessions of a call as plain data, and back.
use Rattle.std.specs.Prelude.{◌≡◌, ℕ, zero, suc, ◌==◌, Bool, if◌then◌else◌, List, [], ◌∷◌, ◌++◌, map, length, Option, Some, None}
use Rattle.rpc_ids.specs.declared.Status.{Status}
use Rattle.rpc_ids.specs.Status.{status_number, status_of}
use Rattle.rpc_handlers.specs.declared.event.Memo.{Memo}
use Rattle.transfer_receiver.specs.declared.phase.Phase.{Phase}
use Rattle.transfer_receiver.specs.declared.phase.Phase.TheVariants as phase
use Rattle.transfer_resume.specs.declared.side.Side.{Side}
use Rattle.transfer_resume.specs.declared.side.Side.TheVariants.{Read, Write}
use Rattle.transfer_resume.specs.declared.stage.Stage.{Stage}
use Rattle.transfer_resume.specs.declared.stage.Stage.TheVariants as stage
use Rattle.transfer_resume.specs.Session.{Row}
use Rattle.transfer_resume.specs.Book.{Book}

-- small things as numbers

abbrev pub side_number : Side → ℕ
side_number Read = 0
side_number Write = 1

abbrev pub side_of : ℕ → Side
side_of n = if n == 0 then Read else Write

abbrev pub flag : Bool → ℕ
flag b = if b then 1 else 0

abbrev pub ended_flag : Option Status → ℕ
ended_flag None = 0
ended_flag (Some status) = 1

abbrev pub ended_number : Option Status → ℕ
ended_number None = 0
ended_number (Some status) = status_number status

abbrev pub ended_of : ℕ → ℕ → Option Status
ended_of there number = if there == 0 then None else Some (status_of number)

abbrev pub phase_place : Phase → ℕ
phase_place phase.Receiving = 0
phase_place phase.Recovering = 1
phase_place (phase.Completing status) = 2
phase_place phase.Ended = 3

abbrev pub phase_number : Phase → ℕ
phase_number phase.Receiving = 0
phase_number phase.Recovering = 0
phase_number (phase.Completing status) = status_number status
phase_number phase.Ended = 0

abbrev pub phase_of : ℕ → ℕ → Phase
phase_of place number =
    if place == 0 then phase.Receiving
    else if place == 1 then phase.Recovering
    else if place == 2 then phase.Completing (status_of number)
    else phase.Ended

-- a session: eleven numbers, and one text, the bytes that it sends

abbrev pub row_words : ℕ → Stage → List ℕ
row_words id (stage.Opening o) = id ∷ 0 ∷ o.resource ∷ o.agreed ∷ o.active ∷ o.timeouts ∷ 0 ∷ 0 ∷ 0 ∷ 0 ∷ 0 ∷ []
row_words id (stage.Sending s) = id ∷ 1 ∷ s.position ∷ s.active ∷ s.timeouts ∷ ended_flag s.ended ∷ ended_number s.ended ∷ 0 ∷ 0 ∷ 0 ∷ 0 ∷ []
row_words id (stage.Receiving r) = id ∷ 2 ∷ r.next ∷ r.window_end ∷ r.span ∷ r.chunk ∷ flag r.shrunk ∷ phase_place r.phase ∷ phase_number r.phase ∷ r.active ∷ r.resends ∷ []
row_words id (stage.Ended status) = id ∷ 3 ∷ status_number status ∷ 0 ∷ 0 ∷ 0 ∷ 0 ∷ 0 ∷ 0 ∷ 0 ∷ 0 ∷ []

abbrev pub row_part : Stage → List ℕ
row_part (stage.Opening o) = []
row_part (stage.Sending s) = s.bytes
row_part (stage.Receiving r) = []
row_part (stage.Ended status) = []

abbrev pub stage_by : ℕ → ℕ → ℕ → ℕ → ℕ → ℕ → ℕ → ℕ → ℕ → ℕ → List ℕ → Stage
stage_by kind a b c d e f g h i part =
    if kind == 0 then stage.Opening (record { resource = a; agreed = b; active = c; timeouts = d })
    else if kind == 1 then stage.Sending (record { bytes = part; position = a; active = b; timeouts = c; ended = ended_of d e })
    else if kind == 2 then stage.Receiving (record { next = a; window_end = b; span = c; chunk = d; shrunk = e == 1; phase = phase_of f g; active = h; resends = i })
    else stage.Ended (status_of a)

abbrev pub words_of_rows : List Row → List ℕ
words_of_rows [] = []
words_of_rows (r ∷ rows) = row_words r.id r.stage ++ words_of_rows rows

abbrev pub parts_of_rows : List Row → List (List ℕ)
parts_of_rows rows = map (λ r. row_part r.stage) rows

abbrev pub rows_of : List ℕ → List (List ℕ) → List Row
rows_of (id ∷ kind ∷ a ∷ b ∷ c ∷ d ∷ e ∷ f ∷ g ∷ h ∷ i ∷ words) (part ∷ parts) =
    record { id = id; stage = stage_by kind a b c d e f g h i part } ∷ rows_of words parts
rows_of _ _ = []

-- a shelf: of a whole resource its id and a text, of one that is left its id and its length

abbrev pub full_words : List (ℕ × List ℕ) → List ℕ
full_words rows = map (λ e. e.0) rows

abbrev pub full_parts : List (ℕ × List ℕ) → List (List ℕ)
full_parts rows = map (λ e. e.1) rows

abbrev pub left_words : List (ℕ × ℕ) → List ℕ
left_words [] = []
left_words (e ∷ rows) = e.0 ∷ e.1 ∷ left_words rows

-- so many whole resources, and what stands behind them
pub record FullsAnd : Type 0 where
  pub fulls : List (ℕ × List ℕ)
  pub words : List ℕ
  pub parts : List (List ℕ)

abbrev pub one_full : ℕ → List ℕ → FullsAnd → FullsAnd
one_full id part rest = record rest { fulls = (id, part) ∷ rest.fulls }

abbrev pub fulls_in : ℕ → List ℕ → List (List ℕ) → FullsAnd
fulls_in zero words parts = record { fulls = []; words = words; parts = parts }
fulls_in (suc n) (id ∷ words) (part ∷ parts) = one_full id part (fulls_in n words parts)
fulls_in (suc n) _ _ = record { fulls = []; words = []; parts = [] }

pub record LeftsAnd : Type 0 where
  pub lefts : List (ℕ × ℕ)
  pub words : List ℕ

abbrev pub one_left : ℕ → ℕ → LeftsAnd → LeftsAnd
one_left id size rest = record rest { lefts = (id, size) ∷ rest.lefts }

abbrev pub lefts_in : ℕ → List ℕ → LeftsAnd
lefts_in zero words = record { lefts = []; words = words }
lefts_in (suc n) (id ∷ size ∷ words) = one_left id size (lefts_in n words)
lefts_in (suc n) _ = record { lefts = []; words = [] }

-- all sessions: six numbers first, then the shelf, then each session

abbrev pub plain_words : Book → List ℕ
plain_words b =
    side_number b.service.side ∷ b.service.window ∷ b.service.chunk ∷ b.service.time ∷ length b.service.shelf.full ∷ length b.service.shelf.left
    ∷ (full_words b.service.shelf.full ++ (left_words b.service.shelf.left ++ words_of_rows b.rows))

abbrev pub plain_parts : Book → List (List ℕ)
plain_parts b = full_parts b.service.shelf.full ++ parts_of_rows b.rows

abbrev pub plain_of : Book → Memo
plain_of b = record { words = plain_words b; parts = plain_parts b }

abbrev pub book_by : ℕ → ℕ → ℕ → ℕ → FullsAnd → LeftsAnd → Book
book_by side window chunk time full left = record {
  service = record { side = side_of side; shelf = record { full = full.fulls; left = left.lefts }; window = window; chunk = chunk; time = time };
  rows = rows_of left.words full.parts;
}

abbrev pub book_behind : ℕ → ℕ → ℕ → ℕ → ℕ → FullsAnd → Book
book_behind side window chunk time lefts full = book_by side window chunk time full (lefts_in lefts full.words)

-- the sessions of such data; numbers that tell of none are read as a call of Read without sessions
abbrev pub book_in : List ℕ → List (List ℕ) → Book
book_in (side ∷ window ∷ chunk ∷ time ∷ fulls ∷ lefts ∷ words) parts = book_behind side window chunk time lefts (fulls_in fulls words parts)
book_in _ parts = record { service = record { side = Read; shelf = record { full = []; left = [] }; window = 0; chunk = 0; time = 0 }; rows = [] }

abbrev pub book_of : Memo → Book
book_of m = book_in m.words m.parts

-- the plain data tells all
abbrev pub ReadsBack : Type 0
ReadsBack = (b : Book) → book_of (plain_of b) ≡ b
