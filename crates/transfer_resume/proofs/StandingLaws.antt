-- How the sessions of a call stand, whatever comes to it.
use Rattle.std.proofs.Common.{◌≡◌, ℕ, ◌<◌, ◌==◌, nat_lt, Bool, true, false, if◌then◌else◌, List, [], ◌∷◌, map, Option, Some, None, unwrap_or, refl, sym, ap, subst, ◌∙◌, arith}
use Rattle.std.proofs.lemmas.Bool.{eqb-true}
use Rattle.std.proofs.lemmas.Bool.Decides.{nat_tests}
use Rattle.std.specs.List.{AllByRecursion}
use Rattle.rpc_ids.specs.declared.Status.{Status}
use Rattle.rpc_ids.specs.declared.Status.TheVariants.{Unimplemented, Cancelled}
use Rattle.transfer_chunk.specs.declared.ChunkType.{ChunkType}
use Rattle.transfer_chunk.specs.declared.ChunkType.TheVariants.{Data, Start, ParametersRetransmit, ParametersContinue, Completion, CompletionAck, StartAck, StartAckConfirmation}
use Rattle.transfer_chunk.specs.Chunk.{Chunk}
use Rattle.transfer_chunk.specs.ChunkTypes.{type_of}
use Rattle.transfer_receiver.specs.declared.phase.Phase.{Phase}
use Rattle.transfer_receiver.specs.declared.phase.Phase.TheVariants as phase
use Rattle.transfer_words.specs.Word.{Word, completion}
use Rattle.transfer_words.specs.Spoken.{said_by}
use Rattle.transfer_words.specs.Saying.{Stepped, says}
use Rattle.transfer_resume.specs.declared.side.Side.{Side}
use Rattle.transfer_resume.specs.declared.stage.Stage.{Stage}
use Rattle.transfer_resume.specs.declared.stage.Stage.TheVariants as stage
use Rattle.transfer_resume.specs.Session.{Row}
use Rattle.transfer_resume.specs.Hears.{session_hears}
use Rattle.transfer_resume.specs.Receiver.{receiver_stops}
use Rattle.transfer_resume.specs.Ticks.{stage_ticks, stage_stops}
use Rattle.transfer_resume.specs.Alone.{moved_by}
use Rattle.transfer_resume.specs.Book.{Book, BookStep, new_book, has_room, stage_of, replaced, with_new, placed, answering, ignoring, word_step, told_id, wanted, named, typed_step, chunk_step, row_by}
use Rattle.transfer_resume.specs.Uploads.{Comes, chunk_comes, time_comes, call_ends, step_at}
use Rattle.transfer_resume.specs.Standing.{AreRising, EndedStaysEnded, EndsEndAll, IsOver, RowsRise, book_over}
use Rattle.transfer_resume.proofs.AloneLaws.{stays_there}
use Rattle.transfer_resume.proofs.RowLemmas.{not_other, placed_own, placed_other, rows_moved, some_none}

-- What holds of each way in which a chunk is taken holds of the chunk: nothing is done, a version is refused, or a session takes
-- a word.
module _ (P : BookStep → Type 0) (b : Book) (ignored : P (ignoring b)) (refused : (id : ℕ) → P (answering b id (says (completion Unimplemented) ∷ [])))
    (moves : (id : ℕ) (w : Word) → P (word_step b id w)) where
  wanted_by : (c : Chunk) (id : ℕ) (test : Bool) → P (if test then ignoring b else word_step b id (said_by Start c))
  wanted_by c id true = ignored
  wanted_by c id false = moves id (said_by Start c)

  desired_by : (c : Chunk) (id : Option ℕ) → P (wanted b c id)
  desired_by c None = ignored
  desired_by c (Some id) = wanted_by c id (id == 0)

  start_by : (c : Chunk) (test : Bool) → P (if test then answering b (told_id c) (says (completion Unimplemented) ∷ []) else wanted b c c.desired)
  start_by c true = refused (told_id c)
  start_by c false = desired_by c c.desired

  named_by : (type : ChunkType) (c : Chunk) (id : Option ℕ) → P (named b type c id)
  named_by type c None = ignored
  named_by type c (Some id) = moves id (said_by type c)

  typed_by : (c : Chunk) (type : Option ChunkType) → P (typed_step b c type)
  typed_by c None = ignored
  typed_by c (Some Start) = start_by c (nat_lt (unwrap_or c.version 0) 2)
  typed_by c (Some Data) = named_by Data c c.session
  typed_by c (Some ParametersRetransmit) = named_by ParametersRetransmit c c.session
  typed_by c (Some ParametersContinue) = named_by ParametersContinue c c.session
  typed_by c (Some Completion) = named_by Completion c c.session
  typed_by c (Some CompletionAck) = named_by CompletionAck c c.session
  typed_by c (Some StartAck) = named_by StartAck c c.session
  typed_by c (Some StartAckConfirmation) = named_by StartAckConfirmation c c.session

  pub chunk_by : (c : Chunk) → P (chunk_step b c)
  chunk_by c = typed_by c (type_of c)

-- Rising ids.

abbrev IsBelow : ℕ → List Row → Type 0
IsBelow id rows = AllByRecursion (λ later. id < later.id) rows

below_less : (n m : ℕ) (rows : List Row) → n < m → IsBelow m rows → IsBelow n rows
below_less n m [] less is = tt
below_less n m (r ∷ rows) less is = let first = is.0 in (omega arith, below_less n m rows less is.1)

below_replaced : (n id : ℕ) (new : Stage) (rows : List Row) → IsBelow n rows → IsBelow n (replaced id new rows)
below_replaced n id new [] is = tt
below_replaced n id new (r ∷ rows) is = by_row (r.id == id) refl (below_replaced n id new rows is.1)
  where
    by_row : (b : Bool) → (r.id == id) ≡ b → IsBelow n (replaced id new rows) → IsBelow n (if b then record { id = id; stage = new } ∷ rows else r ∷ replaced id new rows)
    by_row true e rest = (subst (λ x. n < x) (eqb-true r.id id e) is.0, is.1)
    by_row false e rest = (is.0, rest)

rising_replaced : (id : ℕ) (new : Stage) (rows : List Row) → AreRising rows → AreRising (replaced id new rows)
rising_replaced id new [] is = tt
rising_replaced id new (r ∷ rows) is = by_row (r.id == id) refl (rising_replaced id new rows is.1)
  where
    by_row : (b : Bool) → (r.id == id) ≡ b → AreRising (replaced id new rows) → AreRising (if b then record { id = id; stage = new } ∷ rows else r ∷ replaced id new rows)
    by_row true e rest = (subst (λ x. IsBelow x rows) (eqb-true r.id id e) is.0, is.1)
    by_row false e rest = (below_replaced r.id id new rows is.0, rest)

below_new : (n id : ℕ) (new : Stage) (rows : List Row) → n < id → IsBelow n rows → IsBelow n (with_new id new rows)
below_new n id new [] less is = (less, tt)
below_new n id new (r ∷ rows) less is = by_row (nat_lt id r.id) (below_new n id new rows less is.1)
  where
    by_row : (front : Bool) → IsBelow n (with_new id new rows) → IsBelow n (if front then record { id = id; stage = new } ∷ r ∷ rows else r ∷ with_new id new rows)
    by_row true rest = (less, is)
    by_row false rest = (is.0, rest)

in_front : (id at : ℕ) → nat_lt id at ≡ true → id < at
in_front id at e = grind (arith, nat_tests)

behind : (id at : ℕ) → nat_lt id at ≡ false → (at == id) ≡ false → at < id
behind id at e other = grind (arith, nat_tests)

rising_new : (id : ℕ) (new : Stage) (rows : List Row) → stage_of id rows ≡ None → AreRising rows → AreRising (with_new id new rows)
rising_new id new [] none is = (tt, tt)
rising_new id new (r ∷ rows) none is = by_row (r.id == id) refl none (nat_lt id r.id) refl (λ e. rising_new id new rows e is.1)
  where
    by_row : (same : Bool) → (r.id == id) ≡ same → (if same then Some r.stage else stage_of id rows) ≡ None → (front : Bool) → nat_lt id r.id ≡ front →
        (stage_of id rows ≡ None → AreRising (with_new id new rows)) →
        AreRising (if front then record { id = id; stage = new } ∷ r ∷ rows else r ∷ with_new id new rows)
    by_row true e t front f rest = absurd (some_none r.stage t)
    by_row false e t true f rest = ((in_front id r.id f, below_less id r.id rows (in_front id r.id f) is.0), is)
    by_row false e t false f rest = (below_new r.id id new rows (behind id r.id f e) is.0, rest t)

rising_placed : (id : ℕ) (before after : Option Stage) (rows : List Row) → stage_of id rows ≡ before → AreRising rows → AreRising (placed id before after rows)
rising_placed id None None rows there is = is
rising_placed id (Some old) None rows there is = is
rising_placed id None (Some new) rows there is = rising_new id new rows there is
rising_placed id (Some old) (Some new) rows there is = rising_replaced id new rows is

below_moved : (f : Stage → Stepped Stage) (n : ℕ) (rows : List Row) → IsBelow n rows → IsBelow n (map (row_by f) rows)
below_moved f n [] is = tt
below_moved f n (r ∷ rows) is = (is.0, below_moved f n rows is.1)

rising_moved : (f : Stage → Stepped Stage) (rows : List Row) → AreRising rows → AreRising (map (row_by f) rows)
rising_moved f [] is = tt
rising_moved f (r ∷ rows) is = (below_moved f r.id rows is.0, rising_moved f rows is.1)

rising_step : (b : Book) (e : Comes) → AreRising b.rows → AreRising (step_at b e).after.rows
rising_step b (chunk_comes c) is =
    chunk_by (λ t. AreRising t.after.rows) b is (λ id. is)
    (λ id w. rising_placed id (stage_of id b.rows) (session_hears b.service (has_room b) (stage_of id b.rows) w).after b.rows refl is) c
rising_step b (time_comes now) is = rising_moved (stage_ticks b.service.side now) b.rows is
rising_step b call_ends is = rising_moved (stage_stops b.service.side) b.rows is

rising_over : (b : Book) (es : List Comes) → AreRising b.rows → AreRising (book_over b es).rows
rising_over b [] is = is
rising_over b (e ∷ es) is = rising_over (step_at b e).after es (rising_step b e is)

pub rows_rise : RowsRise
rows_rise side shelf window chunk es = rising_over (new_book side shelf window chunk) es tt

-- The end of the call.

receiver_over : (p : Phase) → IsOver (receiver_stops p).after
receiver_over phase.Receiving = (Cancelled, refl)
receiver_over phase.Recovering = (Cancelled, refl)
receiver_over (phase.Completing status) = (status, refl)
receiver_over phase.Ended = (Cancelled, refl)

stage_over : (side : Side) (s : Stage) → IsOver (stage_stops side s).after
stage_over side (stage.Opening o) = (Cancelled, refl)
stage_over side (stage.Sending s) = (Cancelled, refl)
stage_over side (stage.Receiving r) = receiver_over r.phase
stage_over side (stage.Ended status) = (status, refl)

rows_over : (side : Side) (rows : List Row) → AllByRecursion (λ r. IsOver r.stage) (map (row_by (stage_stops side)) rows)
rows_over side [] = tt
rows_over side (r ∷ rows) = (stage_over side r.stage, rows_over side rows)

pub ends_end_all : EndsEndAll
ends_end_all b = rows_over b.service.side b.rows

-- A session that has ended.

module _ (id : ℕ) (status : Status) where
  abbrev StaysOver : BookStep → Type 0
  StaysOver t = stage_of id t.after.rows ≡ Some (stage.Ended status)

  own_stays : (b : Book) (w : Word) → stage_of id b.rows ≡ Some (stage.Ended status) → StaysOver (word_step b id w)
  own_stays b w over =
      placed_own id (stage_of id b.rows) (session_hears b.service (has_room b) (stage_of id b.rows) w).after b.rows refl (stays_there b.service (has_room b) (stage_of id b.rows) w)
      ∙ ap (λ (s : Option Stage). (session_hears b.service (has_room b) s w).after) over

  word_stays : (b : Book) (k : ℕ) (w : Word) (test : Bool) → (k == id) ≡ test → stage_of id b.rows ≡ Some (stage.Ended status) → StaysOver (word_step b k w)
  word_stays b k w true e over = subst (λ x. StaysOver (word_step b x w)) (sym (eqb-true k id e)) (own_stays b w over)
  word_stays b k w false e over =
      placed_other k id (stage_of k b.rows) (session_hears b.service (has_room b) (stage_of k b.rows) w).after b.rows (not_other k id e) ∙ over

  step_stays : (b : Book) (e : Comes) → stage_of id b.rows ≡ Some (stage.Ended status) → StaysOver (step_at b e)
  step_stays b (chunk_comes c) over = chunk_by StaysOver b over (λ k. over) (λ k w. word_stays b k w (k == id) refl over) c
  step_stays b (time_comes now) over = rows_moved (stage_ticks b.service.side now) id b.rows ∙ ap (moved_by (stage_ticks b.service.side now)) over
  step_stays b call_ends over = rows_moved (stage_stops b.service.side) id b.rows ∙ ap (moved_by (stage_stops b.service.side)) over

pub ended_stays_ended : EndedStaysEnded
ended_stays_ended b [] id status over = over
ended_stays_ended b (e ∷ es) id status over = ended_stays_ended (step_at b e).after es id status (step_stays id status b e over)
