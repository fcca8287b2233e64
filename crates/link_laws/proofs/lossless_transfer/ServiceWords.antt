-- What a session of the service says in answer to a word fits chunks, and is no START.
use Rattle.std.proofs.Common.{ℕ, ◌≤◌, ◌==◌, Bool, true, false, if◌then◌else◌, List, [], ◌∷◌, ◌++◌, length, Option, Some, None, Result, Ok, Err}
use Rattle.std.specs.List.{AllByRecursion}
use Rattle.rpc_ids.specs.declared.Status.{Status}
use Rattle.transfer_base.specs.declared.Ask.{Ask}
use Rattle.transfer_base.specs.declared.Piece.{Piece}
use Rattle.transfer_base.specs.declared.limits.TheConstants.{MAX_CHUNK, MAX_WINDOW}
use Rattle.transfer_sender.specs.Answer.{answer_to}
use Rattle.transfer_sender.specs.Sender.{Sender, new_sender, touched}
use Rattle.transfer_receiver.specs.declared.answers.Received.{Received}
use Rattle.transfer_receiver.specs.declared.answers.Received.TheVariants.{Ignored, Kept, Again, Ends}
use Rattle.transfer_receiver.specs.declared.phase.Phase.{Phase}
use Rattle.transfer_receiver.specs.declared.phase.Phase.TheVariants as phase
use Rattle.transfer_receiver.specs.Answers.{is_okay}
use Rattle.transfer_receiver.specs.Receiver.{Receiver}
use Rattle.transfer_receiver.specs.Run.{outcome_of}
use Rattle.transfer_words.specs.Word.{Word, start, start_ack, confirmation, parameters, data_comes, completion, completion_ack}
use Rattle.transfer_words.specs.Saying.{Saying, Stepped, says, appends, commits, leaves}
use Rattle.transfer_words.specs.CoreAnswers.{of_piece, said_or_ended}
use Rattle.transfer_resume.specs.declared.side.Side.{Side}
use Rattle.transfer_resume.specs.declared.side.Side.TheVariants.{Read, Write}
use Rattle.transfer_resume.specs.declared.stage.Opening.{Opening}
use Rattle.transfer_resume.specs.declared.stage.Stage.{Stage}
use Rattle.transfer_resume.specs.declared.stage.Stage.TheVariants as stage
use Rattle.transfer_resume.specs.Session.{Service}
use Rattle.transfer_resume.specs.Sender.{sender_hears}
use Rattle.transfer_resume.specs.Receiver.{completed, acknowledged, receiver_hears}
use Rattle.transfer_resume.specs.Opening.{confirmed, leaving, offer_of, opened, opened_read, reading}
use Rattle.transfer_resume.specs.Hears.{session_hears, stage_hears, unknown_hears}
use Rattle.transfer_client.specs.Hearing.{IsOfSession}
use Rattle.transfer_laws.proofs.words.Receivers.{AllFit}
use Rattle.transfer_laws.proofs.words.Sessions.{all_join}
use Rattle.transfer_laws.proofs.words.ServiceFits.{StageFits, opened_done, stage_done}

abbrev NoStart : Saying → Type 0
NoStart (says w) = IsOfSession w
NoStart _ = Unit {0}

abbrev pub NoStarts : List Saying → Type 0
NoStarts ss = AllByRecursion NoStart ss

pieces_no_start : (ps : List Piece) (o : Option Status) → NoStarts (said_or_ended ps o)
pieces_no_start [] None = tt
pieces_no_start (p ∷ ps) None = (tt, pieces_no_start ps None)
pieces_no_start ps (Some status) = (tt, tt)

end_no_start : (status : Status) (bytes : List ℕ) (ok empty : Bool) → NoStarts ((if ok then (if empty then [] else appends bytes ∷ []) ++ commits ∷ [] else leaves ∷ []) ++ says (completion status) ∷ [])
end_no_start status bytes true true = (tt, (tt, tt))
end_no_start status bytes true false = (tt, (tt, (tt, tt)))
end_no_start status bytes false empty = (tt, (tt, tt))

piece_no_start : (bytes : List ℕ) (answer : Received) → NoStarts (of_piece bytes answer)
piece_no_start bytes Ignored = tt
piece_no_start bytes (Kept None) = (tt, tt)
piece_no_start bytes (Kept (Some ask)) = (tt, (tt, tt))
piece_no_start bytes (Again ask) = (tt, tt)
piece_no_start bytes (Ends status) = end_no_start status bytes (is_okay status) (length bytes == 0)

sender_no_start : (now : ℕ) (s : Sender) (w : Word) → NoStarts (sender_hears now s w).sayings
sender_no_start now s (start r o) = tt
sender_no_start now s (start_ack o) = tt
sender_no_start now s (confirmation ask) = tt
sender_no_start now s (parameters ask) = pieces_no_start (answer_to (touched s now) ask).pieces (answer_to (touched s now) ask).after.ended
sender_no_start now s (data_comes p) = tt
sender_no_start now s (completion status) = (tt, tt)
sender_no_start now s completion_ack = tt

completed_no_start : (r : Receiver) (p : Phase) (status : Status) → NoStarts (completed r p status).sayings
completed_no_start r phase.Receiving status = (tt, (tt, tt))
completed_no_start r phase.Recovering status = (tt, (tt, tt))
completed_no_start r (phase.Completing own) status = (tt, tt)
completed_no_start r phase.Ended status = (tt, (tt, tt))

acknowledged_no_start : (r : Receiver) (p : Phase) → NoStarts (acknowledged r p).sayings
acknowledged_no_start r phase.Receiving = tt
acknowledged_no_start r phase.Recovering = tt
acknowledged_no_start r (phase.Completing own) = tt
acknowledged_no_start r phase.Ended = tt

receiver_no_start : (now : ℕ) (r : Receiver) (w : Word) → NoStarts (receiver_hears now r w).sayings
receiver_no_start now r (start a b) = tt
receiver_no_start now r (start_ack o) = tt
receiver_no_start now r (confirmation ask) = tt
receiver_no_start now r (parameters ask) = tt
receiver_no_start now r (data_comes p) = piece_no_start p.bytes (outcome_of r p now).answer
receiver_no_start now r (completion status) = completed_no_start r r.phase status
receiver_no_start now r completion_ack = acknowledged_no_start r r.phase

reading_no_start : (now agreed : ℕ) (ask : Ask) (o : Result (List ℕ) Status) → NoStarts (reading now agreed ask o).sayings
reading_no_start now agreed ask (Err status) = (tt, tt)
reading_no_start now agreed ask (Ok bytes) =
    let s : Sender = touched (new_sender bytes agreed now) now in pieces_no_start (answer_to s ask).pieces (answer_to s ask).after.ended

confirmed_no_start : (side : Side) (k : Service) (o : Opening) (ask : Ask) → NoStarts (confirmed side k o ask).sayings
confirmed_no_start Read k o ask = reading_no_start k.time o.agreed ask (offer_of k.shelf o.resource o.agreed)
confirmed_no_start Write k o ask = (tt, tt)

again_no_start : (b : Bool) (offset : ℕ) → NoStarts (if b then says (start_ack offset) ∷ [] else [])
again_no_start true offset = (tt, tt)
again_no_start false offset = tt

leaving_no_start : (side : Side) → NoStarts (leaving side)
leaving_no_start Read = tt
leaving_no_start Write = (tt, tt)

stage_no_start : (k : Service) (s : Stage) (w : Word) → NoStarts (stage_hears k s w).sayings
stage_no_start k (stage.Opening o) (start r offset) = again_no_start (o.resource == r) o.agreed
stage_no_start k (stage.Opening o) (start_ack a) = tt
stage_no_start k (stage.Opening o) (confirmation ask) = confirmed_no_start k.side k o ask
stage_no_start k (stage.Opening o) (parameters ask) = tt
stage_no_start k (stage.Opening o) (data_comes p) = tt
stage_no_start k (stage.Opening o) (completion status) = all_join NoStart (leaving k.side) (says completion_ack ∷ []) (leaving_no_start k.side) (tt, tt)
stage_no_start k (stage.Opening o) completion_ack = tt
stage_no_start k (stage.Sending s) w = sender_no_start k.time s w
stage_no_start k (stage.Receiving r) w = receiver_no_start k.time r w
stage_no_start k (stage.Ended status) (start r o) = (tt, tt)
stage_no_start k (stage.Ended status) (start_ack o) = (tt, tt)
stage_no_start k (stage.Ended status) (confirmation ask) = (tt, tt)
stage_no_start k (stage.Ended status) (parameters ask) = (tt, tt)
stage_no_start k (stage.Ended status) (data_comes p) = (tt, tt)
stage_no_start k (stage.Ended status) (completion told) = (tt, tt)
stage_no_start k (stage.Ended status) completion_ack = tt

read_no_start : (now resource offset : ℕ) (o : Result (List ℕ) Status) → NoStarts (opened_read now resource offset o).sayings
read_no_start now resource offset (Err status) = (tt, tt)
read_no_start now resource offset (Ok bytes) = (tt, tt)

opened_no_start : (side : Side) (k : Service) (resource offset : ℕ) → NoStarts (opened side k resource offset).sayings
opened_no_start Read k resource offset = read_no_start k.time resource offset (offer_of k.shelf resource offset)
opened_no_start Write k resource offset = (tt, (tt, tt))

unknown_no_start : (k : Service) (w : Word) → NoStarts (unknown_hears k true w).sayings
unknown_no_start k (start r o) = opened_no_start k.side k r o
unknown_no_start k (start_ack o) = (tt, tt)
unknown_no_start k (confirmation ask) = (tt, tt)
unknown_no_start k (parameters ask) = (tt, tt)
unknown_no_start k (data_comes p) = (tt, tt)
unknown_no_start k (completion status) = (tt, tt)
unknown_no_start k completion_ack = tt

-- WHERE THE SESSION STANDS, what it says fits
abbrev pub SessionFits : Option Stage → Type 0
SessionFits None = Unit {0}
SessionFits (Some s) = StageFits s

pub record SessionSays (t : Stepped (Option Stage)) : Type 0 where
  pub after : SessionFits t.after
  pub fits : AllFit t.sayings
  pub no_starts : NoStarts t.sayings

unknown_fits : (k : Service) (w : Word) → k.window ≤ MAX_WINDOW → k.chunk ≤ MAX_CHUNK → SessionFits (unknown_hears k true w).after × AllFit (unknown_hears k true w).sayings
unknown_fits k (start r o) wide long = opened_done k.side k.shelf k.window k.chunk wide long k.side k.time r o
unknown_fits k (start_ack o) wide long = (tt, (tt, tt))
unknown_fits k (confirmation ask) wide long = (tt, (tt, tt))
unknown_fits k (parameters ask) wide long = (tt, (tt, tt))
unknown_fits k (data_comes p) wide long = (tt, (tt, tt))
unknown_fits k (completion status) wide long = (tt, (tt, tt))
unknown_fits k completion_ack wide long = (tt, tt)

pub session_says : (k : Service) (s : Option Stage) (w : Word) → k.window ≤ MAX_WINDOW → k.chunk ≤ MAX_CHUNK → SessionFits s → SessionSays (session_hears k true s w)
session_says k None w wide long fits =
    let done = unknown_fits k w wide long in record { after = done.0; fits = done.1; no_starts = unknown_no_start k w }
session_says k (Some s) w wide long fits =
    let done = stage_done k.side k.shelf k.window k.chunk wide long k.time s w fits in record { after = done.0; fits = done.1; no_starts = stage_no_start k s w }
