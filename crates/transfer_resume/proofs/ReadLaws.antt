-- A call of Read has no store action: none of its sessions receives.
use Rattle.std.proofs.Common.{◌≡◌, ℕ, ◌+◌, ◌==◌, nat_le, nat_lt, Bool, true, false, if◌then◌else◌, List, [], ◌∷◌, ◌++◌, map, flat_map, Option, Some, None, Result, Ok, Err, refl, sym, subst}
use Rattle.std.specs.List.{AllByRecursion}
use Rattle.rpc_ids.specs.declared.Status.{Status}
use Rattle.rpc_ids.specs.declared.Status.TheVariants.{DeadlineExceeded}
use Rattle.transfer_base.specs.declared.Ask.{Ask}
use Rattle.transfer_base.specs.declared.Piece.{Piece}
use Rattle.transfer_base.specs.declared.limits.TheConstants.{TIMEOUT}
use Rattle.transfer_sender.specs.declared.sender.TheConstants.{MAX_TIMEOUTS}
use Rattle.transfer_sender.specs.Answer.{answer_to}
use Rattle.transfer_sender.specs.Sender.{Sender, new_sender, touched, ticked}
use Rattle.transfer_words.specs.Word.{Word, start, start_ack, confirmation, parameters, data_comes, completion, completion_ack}
use Rattle.transfer_words.specs.Saying.{Saying, Stepped, says, begins, appends, commits, leaves}
use Rattle.transfer_words.specs.CoreAnswers.{of_timeout, said_or_ended, said_pieces}
use Rattle.transfer_resume.specs.declared.side.Side.{Side}
use Rattle.transfer_resume.specs.declared.side.Side.TheVariants.{Read}
use Rattle.transfer_resume.specs.declared.stage.Opening.{Opening}
use Rattle.transfer_resume.specs.declared.stage.Stage.{Stage}
use Rattle.transfer_resume.specs.declared.stage.Stage.TheVariants as stage
use Rattle.transfer_resume.specs.Session.{Row, Service, staying}
use Rattle.transfer_resume.specs.Opening.{confirmed, leaving, offer_of, opened, opened_read, opening_hears, opening_timeout, reading}
use Rattle.transfer_resume.specs.Sender.{asked, sender_hears, sending_or_ended}
use Rattle.transfer_resume.specs.Hears.{ended_says, session_hears, stage_hears, unknown_hears}
use Rattle.transfer_resume.specs.Ticks.{stage_ticks, stage_stops}
use Rattle.transfer_resume.specs.Book.{Book, BookStep, Outgoing, new_book, has_room, in_session, stage_of, replaced, with_new, placed, word_step, row_by, row_says}
use Rattle.transfer_resume.specs.Uploads.{Comes, chunk_comes, time_comes, call_ends, outs_over, step_at}
use Rattle.transfer_resume.specs.Standing.{IsSaid, ReadsStoreNothing}
use Rattle.transfer_resume.proofs.StandingLaws.{chunk_by}

-- it is said
abbrev IsWord : Saying → Type 0
IsWord (says w) = Unit {0}
IsWord (begins resource offset) = ⊥
IsWord (appends bytes) = ⊥
IsWord commits = ⊥
IsWord leaves = ⊥

abbrev AreWords : List Saying → Type 0
AreWords sayings = AllByRecursion IsWord sayings

-- the session doesn't receive
abbrev IsSender : Stage → Type 0
IsSender (stage.Opening o) = Unit {0}
IsSender (stage.Sending s) = Unit {0}
IsSender (stage.Receiving r) = ⊥
IsSender (stage.Ended status) = Unit {0}

record Quiet (step : Stepped Stage) : Type 0 where
  sends : IsSender step.after
  words : AreWords step.sayings

-- A sender.

pieces_are_words : (ps : List Piece) → AreWords (said_pieces ps)
pieces_are_words [] = tt
pieces_are_words (p ∷ ps) = (tt, pieces_are_words ps)

answer_is_words : (ps : List Piece) (ended : Option Status) → AreWords (said_or_ended ps ended)
answer_is_words ps None = pieces_are_words ps
answer_is_words ps (Some status) = (tt, tt)

timeout_is_words : (ended : Option Status) → AreWords (of_timeout ended)
timeout_is_words None = tt
timeout_is_words (Some status) = (tt, tt)

still_sender : (s : Sender) (ended : Option Status) → IsSender (sending_or_ended s ended)
still_sender s None = tt
still_sender s (Some status) = tt

asked_quiet : (now : ℕ) (s : Sender) (ask : Ask) → Quiet (asked now s ask)
asked_quiet now s ask =
    let a = answer_to (touched s now) ask in
    record { sends = still_sender a.after a.after.ended; words = answer_is_words a.pieces a.after.ended }

sender_quiet : (now : ℕ) (s : Sender) (w : Word) → Quiet (sender_hears now s w)
sender_quiet now s (parameters ask) = asked_quiet now s ask
sender_quiet now s (completion status) = record { sends = tt; words = (tt, tt) }
sender_quiet now s (start resource offset) = record { sends = tt; words = tt }
sender_quiet now s (start_ack offset) = record { sends = tt; words = tt }
sender_quiet now s (confirmation ask) = record { sends = tt; words = tt }
sender_quiet now s (data_comes p) = record { sends = tt; words = tt }
sender_quiet now s completion_ack = record { sends = tt; words = tt }

-- A word.

reading_quiet : (now agreed : ℕ) (ask : Ask) (offer : Result (List ℕ) Status) → Quiet (reading now agreed ask offer)
reading_quiet now agreed ask (Err status) = record { sends = tt; words = (tt, tt) }
reading_quiet now agreed ask (Ok bytes) = asked_quiet now (new_sender bytes agreed now) ask

again_is_words : (o : Opening) (test : Bool) → AreWords (if test then says (start_ack o.agreed) ∷ [] else [])
again_is_words o true = (tt, tt)
again_is_words o false = tt

leaving_is_words : (side : Side) (more : List Saying) → side ≡ Read → AreWords more → AreWords (leaving side ++ more)
leaving_is_words side more is words = subst (λ x. AreWords (leaving x ++ more)) (sym is) words

ended_is_words : (status : Status) (w : Word) → AreWords (ended_says status w)
ended_is_words status (completion told) = (tt, tt)
ended_is_words status completion_ack = tt
ended_is_words status (start resource offset) = (tt, tt)
ended_is_words status (start_ack offset) = (tt, tt)
ended_is_words status (confirmation ask) = (tt, tt)
ended_is_words status (parameters ask) = (tt, tt)
ended_is_words status (data_comes p) = (tt, tt)

opened_quiet : (now resource offset : ℕ) (offer : Result (List ℕ) Status) → Quiet (opened_read now resource offset offer)
opened_quiet now resource offset (Err status) = record { sends = tt; words = (tt, tt) }
opened_quiet now resource offset (Ok bytes) = record { sends = tt; words = (tt, tt) }

abbrev IsSenderIf : Option Stage → Type 0
IsSenderIf None = Unit {0}
IsSenderIf (Some s) = IsSender s

record QuietIf (step : Stepped (Option Stage)) : Type 0 where
  sends : IsSenderIf step.after
  words : AreWords step.sayings

module _ (k : Service) (is : k.side ≡ Read) where
  opening_quiet : (o : Opening) (w : Word) → Quiet (opening_hears k o w)
  opening_quiet o (start resource offset) = record { sends = tt; words = again_is_words o (o.resource == resource) }
  opening_quiet o (confirmation ask) = subst (λ side. Quiet (confirmed side k o ask)) (sym is) (reading_quiet k.time o.agreed ask (offer_of k.shelf o.resource o.agreed))
  opening_quiet o (completion status) = record { sends = tt; words = leaving_is_words k.side (says completion_ack ∷ []) is (tt, tt) }
  opening_quiet o (start_ack offset) = record { sends = tt; words = tt }
  opening_quiet o (parameters ask) = record { sends = tt; words = tt }
  opening_quiet o (data_comes p) = record { sends = tt; words = tt }
  opening_quiet o completion_ack = record { sends = tt; words = tt }

  hears_quiet : (s : Stage) (w : Word) → IsSender s → Quiet (stage_hears k s w)
  hears_quiet (stage.Opening o) w sends = opening_quiet o w
  hears_quiet (stage.Sending s) w sends = sender_quiet k.time s w
  hears_quiet (stage.Receiving r) w sends = absurd sends
  hears_quiet (stage.Ended status) w sends = record { sends = tt; words = ended_is_words status w }

  opens_quiet : (resource offset : ℕ) → Quiet (opened k.side k resource offset)
  opens_quiet resource offset = subst (λ side. Quiet (opened side k resource offset)) (sym is) (opened_quiet k.time resource offset (offer_of k.shelf resource offset))

  unknown_quiet : (room : Bool) (w : Word) → QuietIf (unknown_hears k room w)
  unknown_quiet true (start resource offset) = let opens = opens_quiet resource offset in record { sends = opens.sends; words = opens.words }
  unknown_quiet false (start resource offset) = record { sends = tt; words = (tt, tt) }
  unknown_quiet room (completion told) = record { sends = tt; words = (tt, tt) }
  unknown_quiet room completion_ack = record { sends = tt; words = tt }
  unknown_quiet room (start_ack offset) = record { sends = tt; words = (tt, tt) }
  unknown_quiet room (confirmation ask) = record { sends = tt; words = (tt, tt) }
  unknown_quiet room (parameters ask) = record { sends = tt; words = (tt, tt) }
  unknown_quiet room (data_comes p) = record { sends = tt; words = (tt, tt) }

  session_quiet : (room : Bool) (state : Option Stage) (w : Word) → IsSenderIf state → QuietIf (session_hears k room state w)
  session_quiet room (Some s) w sends = let hears = hears_quiet s w sends in record { sends = hears.sends; words = hears.words }
  session_quiet room None w sends = unknown_quiet room w

-- The time, and the end of the call.

timeout_quiet : (side : Side) (now : ℕ) (o : Opening) (test : Bool) → side ≡ Read →
    Quiet (if test then record { after = stage.Ended DeadlineExceeded; sayings = leaving side ++ says (completion DeadlineExceeded) ∷ [] } else staying (stage.Opening (record o { active = now; timeouts = o.timeouts + 1 })))
timeout_quiet side now o true is = record { sends = tt; words = leaving_is_words side (says (completion DeadlineExceeded) ∷ []) is (tt, tt) }
timeout_quiet side now o false is = record { sends = tt; words = tt }

waits_quiet : (side : Side) (now : ℕ) (o : Opening) (test : Bool) → side ≡ Read → Quiet (if test then opening_timeout side now o else staying (stage.Opening o))
waits_quiet side now o true is = timeout_quiet side now o (o.timeouts + 1 == MAX_TIMEOUTS) is
waits_quiet side now o false is = record { sends = tt; words = tt }

ticks_quiet : (side : Side) → side ≡ Read → (now : ℕ) (s : Stage) → IsSender s → Quiet (stage_ticks side now s)
ticks_quiet side is now (stage.Opening o) sends = waits_quiet side now o (nat_le (o.active + TIMEOUT) now) is
ticks_quiet side is now (stage.Sending s) sends = record { sends = still_sender (ticked s now) (ticked s now).ended; words = timeout_is_words (ticked s now).ended }
ticks_quiet side is now (stage.Receiving r) sends = absurd sends
ticks_quiet side is now (stage.Ended status) sends = record { sends = tt; words = tt }

stops_words : (side : Side) → side ≡ Read → AreWords (leaving side)
stops_words side is = subst (λ x. AreWords (leaving x)) (sym is) tt

stops_quiet : (side : Side) → side ≡ Read → (s : Stage) → IsSender s → Quiet (stage_stops side s)
stops_quiet side is (stage.Opening o) sends = record { sends = tt; words = stops_words side is }
stops_quiet side is (stage.Sending s) sends = record { sends = tt; words = tt }
stops_quiet side is (stage.Receiving r) sends = absurd sends
stops_quiet side is (stage.Ended status) sends = record { sends = tt; words = tt }

-- All sessions.

abbrev AreSenders : List Row → Type 0
AreSenders rows = AllByRecursion (λ r. IsSender r.stage) rows

abbrev AreSaid : List Outgoing → Type 0
AreSaid outs = AllByRecursion (λ o. IsWord o.saying) outs

both_said : (xs ys : List Outgoing) → AreSaid xs → AreSaid ys → AreSaid (xs ++ ys)
both_said [] ys first later = later
both_said (x ∷ xs) ys first later = (first.0, both_said xs ys first.1 later)

said_in : (id : ℕ) (sayings : List Saying) → AreWords sayings → AreSaid (in_session id sayings)
said_in id [] words = tt
said_in id (s ∷ sayings) words = (words.0, said_in id sayings words.1)

stage_sends : (id : ℕ) (rows : List Row) → AreSenders rows → IsSenderIf (stage_of id rows)
stage_sends id [] all = tt
stage_sends id (r ∷ rows) all = by_row (r.id == id) (stage_sends id rows all.1)
  where
    by_row : (test : Bool) → IsSenderIf (stage_of id rows) → IsSenderIf (if test then Some r.stage else stage_of id rows)
    by_row true later = all.0
    by_row false later = later

replaced_send : (id : ℕ) (new : Stage) (rows : List Row) → IsSender new → AreSenders rows → AreSenders (replaced id new rows)
replaced_send id new [] sends all = tt
replaced_send id new (r ∷ rows) sends all = by_row (r.id == id) (replaced_send id new rows sends all.1)
  where
    by_row : (test : Bool) → AreSenders (replaced id new rows) → AreSenders (if test then record { id = id; stage = new } ∷ rows else r ∷ replaced id new rows)
    by_row true later = (sends, all.1)
    by_row false later = (all.0, later)

new_sends : (id : ℕ) (new : Stage) (rows : List Row) → IsSender new → AreSenders rows → AreSenders (with_new id new rows)
new_sends id new [] sends all = (sends, tt)
new_sends id new (r ∷ rows) sends all = by_row (nat_lt id r.id) (new_sends id new rows sends all.1)
  where
    by_row : (front : Bool) → AreSenders (with_new id new rows) → AreSenders (if front then record { id = id; stage = new } ∷ r ∷ rows else r ∷ with_new id new rows)
    by_row true later = (sends, all)
    by_row false later = (all.0, later)

placed_send : (id : ℕ) (before after : Option Stage) (rows : List Row) → IsSenderIf after → AreSenders rows → AreSenders (placed id before after rows)
placed_send id before None rows sends all = all
placed_send id (Some old) (Some new) rows sends all = replaced_send id new rows sends all
placed_send id None (Some new) rows sends all = new_sends id new rows sends all

module _ (f : Stage → Stepped Stage) (each : (s : Stage) → IsSender s → Quiet (f s)) where
  rows_send : (rows : List Row) → AreSenders rows → AreSenders (map (row_by f) rows)
  rows_send [] all = tt
  rows_send (r ∷ rows) all = ((each r.stage all.0).sends, rows_send rows all.1)

  rows_said : (rows : List Row) → AreSenders rows → AreSaid (flat_map (row_says f) rows)
  rows_said [] all = tt
  rows_said (r ∷ rows) all = both_said (row_says f r) (flat_map (row_says f) rows) (said_in r.id (f r.stage).sayings (each r.stage all.0).words) (rows_said rows all.1)

-- a book of a call of Read
record OnlySends (b : Book) : Type 0 where
  side : b.service.side ≡ Read
  senders : AreSenders b.rows

record QuietStep (t : BookStep) : Type 0 where
  stays : OnlySends t.after
  said : AreSaid t.outs

word_quiet : (b : Book) → OnlySends b → (id : ℕ) (w : Word) → QuietStep (word_step b id w)
word_quiet b only id w =
    let step = session_quiet b.service only.side (has_room b) (stage_of id b.rows) w (stage_sends id b.rows only.senders) in
    let after = (session_hears b.service (has_room b) (stage_of id b.rows) w).after in
    record {
      stays = record { side = only.side; senders = placed_send id (stage_of id b.rows) after b.rows step.sends only.senders };
      said = said_in id (session_hears b.service (has_room b) (stage_of id b.rows) w).sayings step.words;
    }

step_quiet : (b : Book) → OnlySends b → (e : Comes) → QuietStep (step_at b e)
step_quiet b only (chunk_comes c) =
    chunk_by QuietStep b (record { stays = only; said = tt }) (λ id. record { stays = only; said = (tt, tt) }) (word_quiet b only) c
step_quiet b only (time_comes now) =
    let each = ticks_quiet b.service.side only.side now in
    record {
      stays = record { side = only.side; senders = rows_send (stage_ticks b.service.side now) each b.rows only.senders };
      said = rows_said (stage_ticks b.service.side now) each b.rows only.senders;
    }
step_quiet b only call_ends =
    let each = stops_quiet b.service.side only.side in
    record {
      stays = record { side = only.side; senders = rows_send (stage_stops b.service.side) each b.rows only.senders };
      said = rows_said (stage_stops b.service.side) each b.rows only.senders;
    }

all_said : (b : Book) → OnlySends b → (es : List Comes) → AreSaid (outs_over b es)
all_said b only [] = tt
all_said b only (e ∷ es) = let step = step_quiet b only e in both_said (step_at b e).outs (outs_over (step_at b e).after es) step.said (all_said (step_at b e).after step.stays es)

is_said : (s : Saying) → IsWord s → (w : Word) × (s ≡ says w)
is_said (says w) is = (w, refl)
is_said (begins resource offset) is = absurd is
is_said (appends bytes) is = absurd is
is_said commits is = absurd is
is_said leaves is = absurd is

are_said : (outs : List Outgoing) → AreSaid outs → AllByRecursion IsSaid outs
are_said [] said = tt
are_said (o ∷ outs) said = (is_said o.saying said.0, are_said outs said.1)

pub reads_store_nothing : ReadsStoreNothing
reads_store_nothing shelf window chunk es =
    are_said (outs_over (new_book Read shelf window chunk) es) (all_said (new_book Read shelf window chunk) (record { side = refl; senders = tt }) es)
