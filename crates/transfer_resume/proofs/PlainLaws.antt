-- The plain data of all sessions tells all of them.
use Rattle.std.proofs.Common.{◌≡◌, ℕ, ◌==◌, Bool, true, false, List, [], ◌∷◌, ◌++◌, length, Option, Some, None, refl, ap, ◌∙◌}
use Rattle.rpc_ids.specs.declared.Status.{Status}
use Rattle.transfer_sender.specs.Sender.{Sender}
use Rattle.transfer_receiver.specs.declared.phase.Phase.{Phase}
use Rattle.transfer_receiver.specs.declared.phase.Phase.TheVariants as phase
use Rattle.transfer_receiver.specs.Receiver.{Receiver}
use Rattle.transfer_words.proofs.SpokenLaws.{status_again}
use Rattle.transfer_resume.specs.declared.side.Side.{Side}
use Rattle.transfer_resume.specs.declared.side.Side.TheVariants.{Read, Write}
use Rattle.transfer_resume.specs.declared.stage.Stage.{Stage}
use Rattle.transfer_resume.specs.declared.stage.Stage.TheVariants as stage
use Rattle.transfer_resume.specs.Session.{Row}
use Rattle.transfer_resume.specs.Book.{Book}
use Rattle.transfer_resume.specs.Plain.{side_number, side_of, flag, ended_flag, ended_number, ended_of, phase_place, phase_number, phase_of, words_of_rows, parts_of_rows, rows_of, full_words, full_parts, left_words, one_full, fulls_in, one_left, lefts_in, book_by, book_behind, ReadsBack}

side_again : (side : Side) → side_of (side_number side) ≡ side
side_again Read = refl
side_again Write = refl

flag_again : (b : Bool) → (flag b == 1) ≡ b
flag_again true = refl
flag_again false = refl

ended_again : (ended : Option Status) → ended_of (ended_flag ended) (ended_number ended) ≡ ended
ended_again None = refl
ended_again (Some status) = ap Some (status_again status)

phase_again : (p : Phase) → phase_of (phase_place p) (phase_number p) ≡ p
phase_again phase.Receiving = refl
phase_again phase.Recovering = refl
phase_again (phase.Completing status) = ap phase.Completing (status_again status)
phase_again phase.Ended = refl

sender_again : (s : Sender) (ended : Option Status) → ended ≡ s.ended →
    stage.Sending (record { bytes = s.bytes; position = s.position; active = s.active; timeouts = s.timeouts; ended = ended }) ≡ stage.Sending s
sender_again s ended e = ap (λ x. stage.Sending (record { bytes = s.bytes; position = s.position; active = s.active; timeouts = s.timeouts; ended = x })) e

receiver_again : (r : Receiver) (shrunk : Bool) (p : Phase) → shrunk ≡ r.shrunk → p ≡ r.phase →
    stage.Receiving (record { next = r.next; window_end = r.window_end; span = r.span; chunk = r.chunk; shrunk = shrunk; phase = p; active = r.active; resends = r.resends }) ≡ stage.Receiving r
receiver_again r shrunk p e f =
    ap (λ x. stage.Receiving (record { next = r.next; window_end = r.window_end; span = r.span; chunk = r.chunk; shrunk = x; phase = p; active = r.active; resends = r.resends })) e
    ∙ ap (λ x. stage.Receiving (record { next = r.next; window_end = r.window_end; span = r.span; chunk = r.chunk; shrunk = r.shrunk; phase = x; active = r.active; resends = r.resends })) f

abbrev with_row : ℕ → Stage → List Row → List Row
with_row id s rows = record { id = id; stage = s } ∷ rows

front : (id : ℕ) (one other : Stage) (rows more : List Row) → one ≡ other → rows ≡ more →
    with_row id one rows ≡ with_row id other more
front id one other rows more e f = ap (λ x. with_row id x rows) e ∙ ap (with_row id other) f

row_back : (id : ℕ) (s : Stage) (rows : List Row) → rows_of (words_of_rows rows) (parts_of_rows rows) ≡ rows →
    rows_of (words_of_rows (record { id = id; stage = s } ∷ rows)) (parts_of_rows (record { id = id; stage = s } ∷ rows)) ≡ record { id = id; stage = s } ∷ rows
row_back id (stage.Opening o) rows rest = front id _ (stage.Opening o) _ rows refl rest
row_back id (stage.Sending s) rows rest = front id _ (stage.Sending s) _ rows (sender_again s _ (ended_again s.ended)) rest
row_back id (stage.Receiving r) rows rest = front id _ (stage.Receiving r) _ rows (receiver_again r _ _ (flag_again r.shrunk) (phase_again r.phase)) rest
row_back id (stage.Ended status) rows rest = front id _ (stage.Ended status) _ rows (ap stage.Ended (status_again status)) rest

rows_back : (rows : List Row) → rows_of (words_of_rows rows) (parts_of_rows rows) ≡ rows
rows_back [] = refl
rows_back (r ∷ rows) = row_back r.id r.stage rows (rows_back rows)

fulls_back : (fulls : List (ℕ × List ℕ)) (words : List ℕ) (parts : List (List ℕ)) →
    fulls_in (length fulls) (full_words fulls ++ words) (full_parts fulls ++ parts) ≡ record { fulls = fulls; words = words; parts = parts }
fulls_back [] words parts = refl
fulls_back (e ∷ fulls) words parts = ap (one_full e.0 e.1) (fulls_back fulls words parts)

lefts_back : (lefts : List (ℕ × ℕ)) (words : List ℕ) → lefts_in (length lefts) (left_words lefts ++ words) ≡ record { lefts = lefts; words = words }
lefts_back [] words = refl
lefts_back (e ∷ lefts) words = ap (one_left e.0 e.1) (lefts_back lefts words)

abbrev book_with : Book → Side → List Row → Book
book_with b side rows = record { service = record { side = side; shelf = b.service.shelf; window = b.service.window; chunk = b.service.chunk; time = b.service.time }; rows = rows }

pub reads_back : ReadsBack
reads_back b =
    let k = b.service in
    ap (book_behind (side_number k.side) k.window k.chunk k.time (length k.shelf.left))
    (fulls_back k.shelf.full (left_words k.shelf.left ++ words_of_rows b.rows) (parts_of_rows b.rows))
    ∙ (ap (book_by (side_number k.side) k.window k.chunk k.time (record { fulls = k.shelf.full; words = left_words k.shelf.left ++ words_of_rows b.rows; parts = parts_of_rows b.rows }))
    (lefts_back k.shelf.left (words_of_rows b.rows))
    ∙ (ap (λ rows. book_with b (side_of (side_number k.side)) rows) (rows_back b.rows)
    ∙ ap (λ side. book_with b side b.rows) (side_again k.side)))
