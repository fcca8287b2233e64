-- What a transfer of the client says is short enough for a message.
use Rattle.std.proofs.Common.{◌≡◌, ℕ, zero, suc, ◌+◌, ◌-◌, ◌<◌, ◌≤◌, ◌==◌, min, nat_lt, Bool, true, false, if◌then◌else◌, List, [], ◌∷◌, ◌++◌, drop, get_or, length, Option, Some, None, refl, arith, length-take}
use Rattle.std.proofs.lemmas.Bool.Decides.{nat_tests}
use Rattle.std.specs.List.{AllByRecursion}
use Rattle.rpc_ids.specs.declared.Status.{Status}
use Rattle.rpc_ids.specs.declared.Status.TheVariants.{DeadlineExceeded, OutOfRange}
use Rattle.rpc_handlers.specs.declared.answer.Out.{Out}
use Rattle.rpc_handlers.specs.Limits.{is_long, is_long_out}
use Rattle.task_core.specs.declared.mail.Mail.{Mail}
use Rattle.task_core.specs.declared.mail.Mail.TheVariants.{Text, Closed}
use Rattle.transfer_base.specs.declared.Ask.{Ask}
use Rattle.transfer_base.specs.declared.Piece.{Piece}
use Rattle.transfer_base.specs.declared.limits.TheConstants.{MAX_CHUNK}
use Rattle.transfer_base.specs.PieceLists.{end_of}
use Rattle.transfer_receiver.specs.declared.answers.Received.{Received}
use Rattle.transfer_receiver.specs.declared.answers.Received.TheVariants.{Ignored, Kept, Again, Ends}
use Rattle.transfer_receiver.specs.declared.answers.Ticked.{Ticked}
use Rattle.transfer_receiver.specs.declared.answers.Ticked.TheVariants.{Quiet, Resend, ResendEnd, Over}
use Rattle.transfer_receiver.specs.declared.phase.Phase.{Phase}
use Rattle.transfer_receiver.specs.declared.phase.Phase.TheVariants as phase
use Rattle.transfer_receiver.specs.Answers.{is_okay}
use Rattle.transfer_receiver.specs.Phase.{is_open}
use Rattle.transfer_receiver.specs.Receiver.{Receiver, new_receiver}
use Rattle.transfer_receiver.specs.Run.{outcome_of}
use Rattle.transfer_receiver.specs.TickRules.{tick_outcome}
use Rattle.transfer_sender.specs.Answer.{answer_to, chunk_size, is_past_end, pieces_again, pieces_for, start_of}
use Rattle.transfer_sender.specs.declared.cut.TheConstants.{MAX_PIECES}
use Rattle.transfer_sender.specs.Cut.{piece_at, pieces_up_to}
use Rattle.transfer_sender.specs.Sender.{Sender, new_sender, ticked, touched}
use Rattle.transfer_words.specs.Word.{Word, start, start_ack, confirmation, parameters, data_comes, completion, completion_ack}
use Rattle.transfer_words.specs.Saying.{Saying, Stepped, appends, begins, commits, leaves, outs_of, says}
use Rattle.transfer_words.specs.CoreAnswers.{end_work, of_answer, of_piece, of_tick, of_timeout, said_or_ended, said_pieces}
use Rattle.transfer_words.specs.Spoken.{data_length, text_in}
use Rattle.transfer_words.proofs.SpokenLaws.{words_are_short}
use Rattle.transfer_client.specs.declared.stages.Wait.{Wait}
use Rattle.transfer_client.specs.declared.stages.Reading.{Reading}
use Rattle.transfer_client.specs.declared.stages.Reading.TheVariants as reading
use Rattle.transfer_client.specs.declared.stages.Writing.{Writing}
use Rattle.transfer_client.specs.declared.stages.Writing.TheVariants as writing
use Rattle.transfer_client.specs.Machine.{staying}
use Rattle.transfer_client.specs.Polling.{polled}
use Rattle.transfer_client.specs.Read as read
use Rattle.transfer_client.specs.Read.{Download, read_rules}
use Rattle.transfer_client.specs.Wait as waiting
use Rattle.transfer_client.specs.Write as write
use Rattle.transfer_client.specs.Write.{Upload, write_rules}
use Rattle.transfer_laws.specs.words.Tasks.{WordsIn}
use Rattle.transfer_laws.proofs.words.Polls.{KeepsSteps, poll_keeps}
use Rattle.link_laws.specs.world.Client.{transfer_says}
use Rattle.link_laws.specs.world.World.{Transfer, reads, writes}
use Rattle.link_laws.proofs.one_run.Links.{all_append}

-- what is said carries no more data than a chunk may have
abbrev Short : Saying → Type 0
Short (says w) = data_length w ≤ MAX_CHUNK
Short _ = Unit {0}

abbrev AllShort : List Saying → Type 0
AllShort said = AllByRecursion Short said

-- The pieces of a sender.

abbrev ShortPiece : Piece → Type 0
ShortPiece p = length p.bytes ≤ MAX_CHUNK

piece_short : (resource : List ℕ) (offset size : ℕ) → size ≤ MAX_CHUNK → ShortPiece (piece_at resource offset size)
piece_short resource offset size low = omega (arith, low, length-take size (drop offset resource))

window_short : (resource : List ℕ) (chunk stop offset most : ℕ) → chunk ≤ MAX_CHUNK → AllByRecursion ShortPiece (pieces_up_to resource chunk stop offset most)
unfolding pieces_up_to
window_short resource chunk stop offset zero low = tt
window_short resource chunk stop offset (suc most) low =
    by (nat_lt offset stop) (window_short resource chunk stop (offset + min chunk (stop - offset)) most low)
  where
    by : (b : Bool) → AllByRecursion ShortPiece (pieces_up_to resource chunk stop (offset + min chunk (stop - offset)) most)
        → AllByRecursion ShortPiece (if b then piece_at resource offset (min chunk (stop - offset)) ∷ pieces_up_to resource chunk stop (offset + min chunk (stop - offset)) most else [])
    by true more = (piece_short resource offset (min chunk (stop - offset)) (omega (arith, low)), more)
    by false more = tt

size_low : (asked : ℕ) → chunk_size asked ≤ MAX_CHUNK
size_low asked = by (asked == 0)
  where
    by : (b : Bool) → (if b then MAX_CHUNK else min asked MAX_CHUNK) ≤ MAX_CHUNK
    by true = omega arith
    by false = omega arith

again_short : (resource : List ℕ) (ask : Ask) → AllByRecursion ShortPiece (pieces_again resource ask)
again_short resource ask = by (ask.offset == length resource)
  where
    by : (b : Bool) → AllByRecursion ShortPiece (if b then piece_at resource (length resource) 0 ∷ [] else pieces_up_to resource (chunk_size ask.max_chunk) (min ask.window_end (length resource)) ask.offset MAX_PIECES)
    by true = (omega arith, tt)
    by false = window_short resource (chunk_size ask.max_chunk) (min ask.window_end (length resource)) ask.offset MAX_PIECES (size_low ask.max_chunk)

asked_short : (s : Sender) (ask : Ask) → AllByRecursion ShortPiece (pieces_for s ask)
asked_short s ask = by ask.again
  where
    by : (b : Bool) → AllByRecursion ShortPiece (if b then pieces_again s.bytes ask else pieces_up_to s.bytes (chunk_size ask.max_chunk) (min ask.window_end (length s.bytes)) s.position MAX_PIECES)
    by true = again_short s.bytes ask
    by false = window_short s.bytes (chunk_size ask.max_chunk) (min ask.window_end (length s.bytes)) s.position MAX_PIECES (size_low ask.max_chunk)

pieces_short : (ps : List Piece) → AllByRecursion ShortPiece ps → AllShort (said_pieces ps)
pieces_short [] all = tt
pieces_short (p ∷ ps) all = (all.0, pieces_short ps all.1)

ended_short : (ps : List Piece) (end : Option Status) → AllByRecursion ShortPiece ps → AllShort (said_or_ended ps end)
ended_short ps None all = pieces_short ps all
ended_short ps (Some status) all = (omega arith, tt)

answer_short : (s : Sender) (ask : Ask) → AllShort (of_answer (answer_to s ask))
answer_short s ask = by (is_past_end s ask)
  where
    by : (b : Bool) → AllShort (of_answer (if b then record { after = record s { ended = Some OutOfRange }; pieces = [] } else record { after = record s { position = end_of (start_of s ask) (pieces_for s ask) }; pieces = pieces_for s ask }))
    by true = (omega arith, tt)
    by false = ended_short (pieces_for s ask) s.ended (asked_short s ask)

-- A write.

timeout_short : (end : Option Status) → AllShort (of_timeout end)
timeout_short None = tt
timeout_short (Some status) = (omega arith, tt)

write_opens : (u : Upload) (stage : Writing) (now : ℕ) → AllShort (write.opens_at u stage now).sayings
write_opens u writing.Unasked now = (omega arith, tt)
write_opens u (writing.Asking w) now = tt
write_opens u (writing.Confirming w) now = tt
write_opens u (writing.Sending s) now = tt
write_opens u (writing.Over status) now = tt

write_agrees : (u : Upload) (agreed now : ℕ) → AllShort (write.agrees u agreed now).sayings
write_agrees u agreed now = by (nat_lt u.asked agreed)
  where
    by : (b : Bool) → AllShort (if b then record { after = write.at_stage u (writing.Over OutOfRange); sayings = says (completion OutOfRange) ∷ [] } else write.confirms (record u { agreed = Some agreed }) (waiting.new_wait now)).sayings
    by true = (omega arith, tt)
    by false = (omega arith, tt)

write_asking : (u : Upload) (w : Wait) (x : Word) (now : ℕ) → AllShort (write.asking_hears u w x now).sayings
write_asking u w (start_ack agreed) now = write_agrees u agreed now
write_asking u w (completion status) now = (omega arith, tt)
write_asking u w (start r o) now = tt
write_asking u w (confirmation ask) now = tt
write_asking u w (parameters ask) now = tt
write_asking u w (data_comes p) now = tt
write_asking u w completion_ack now = tt

write_confirming : (u : Upload) (w : Wait) (x : Word) (now : ℕ) → AllShort (write.confirming_hears u w x now).sayings
write_confirming u w (parameters ask) now = answer_short (touched (new_sender u.bytes (write.write_offset u) now) now) ask
write_confirming u w (completion status) now = (omega arith, tt)
write_confirming u w (start r o) now = tt
write_confirming u w (start_ack agreed) now = tt
write_confirming u w (confirmation ask) now = tt
write_confirming u w (data_comes p) now = tt
write_confirming u w completion_ack now = tt

write_sending : (u : Upload) (s : Sender) (x : Word) (now : ℕ) → AllShort (write.sending_hears u s x now).sayings
write_sending u s (parameters ask) now = answer_short (touched s now) ask
write_sending u s (completion status) now = (omega arith, tt)
write_sending u s (start r o) now = tt
write_sending u s (start_ack agreed) now = tt
write_sending u s (confirmation ask) now = tt
write_sending u s (data_comes p) now = tt
write_sending u s completion_ack now = tt

write_hears : (u : Upload) (stage : Writing) (x : Word) (now : ℕ) → AllShort (write.hears_at u stage x now).sayings
write_hears u writing.Unasked x now = tt
write_hears u (writing.Asking w) x now = write_asking u w x now
write_hears u (writing.Confirming w) x now = write_confirming u w x now
write_hears u (writing.Sending s) x now = write_sending u s x now
write_hears u (writing.Over status) x now = tt

write_closes : (u : Upload) (stage : Writing) (status : Status) → AllShort (write.closes_at u stage status).sayings
write_closes u writing.Unasked status = tt
write_closes u (writing.Asking w) status = tt
write_closes u (writing.Confirming w) status = tt
write_closes u (writing.Sending s) status = tt
write_closes u (writing.Over ended) status = tt

-- it asks or confirms again, gives up, or waits
late_short : {A : Type 0} (late again : Bool) (asks gives waits : Stepped A) → AllShort asks.sayings → AllShort gives.sayings → AllShort waits.sayings
    → AllShort (if late then (if again then asks else gives) else waits).sayings
late_short true true asks gives waits a g w = a
late_short true false asks gives waits a g w = g
late_short false again asks gives waits a g w = w

write_ticks : (u : Upload) (stage : Writing) (now : ℕ) → AllShort (write.ticks_at u stage now).sayings
write_ticks u writing.Unasked now = tt
write_ticks u (writing.Asking w) now =
    late_short (waiting.is_late w now) (waiting.has_resends w) (write.asks u (waiting.again w now)) (write.gives_up u) (staying u) (omega arith, tt) tt tt
write_ticks u (writing.Confirming w) now =
    late_short (waiting.is_late w now) (waiting.has_resends w) (write.confirms u (waiting.again w now)) (write.gives_up u) (staying u) (omega arith, tt) tt tt
write_ticks u (writing.Sending s) now =
    late_short (waiting.is_late_since s.active now) true (write.sending_timeout u (ticked s now)) (staying u) (staying u) (timeout_short (ticked s now).ended) tt tt
write_ticks u (writing.Over status) now = tt

-- A read.

work_short : (status : Status) (bytes : List ℕ) → AllShort (end_work status bytes ++ says (completion status) ∷ [])
work_short status bytes = by (is_okay status) (length bytes == 0)
  where
    by : (okay empty : Bool) → AllShort ((if okay then (if empty then [] else appends bytes ∷ []) ++ commits ∷ [] else leaves ∷ []) ++ says (completion status) ∷ [])
    by true true = (tt, (omega arith, tt))
    by true false = (tt, (tt, (omega arith, tt)))
    by false empty = (tt, (omega arith, tt))

piece_answer_short : (bytes : List ℕ) (a : Received) → AllShort (of_piece bytes a)
piece_answer_short bytes Ignored = tt
piece_answer_short bytes (Kept None) = (tt, tt)
piece_answer_short bytes (Kept (Some ask)) = (tt, (omega arith, tt))
piece_answer_short bytes (Again ask) = (omega arith, tt)
piece_answer_short bytes (Ends status) = work_short status bytes

tick_short : (going : Bool) (t : Ticked) → AllShort (of_tick going t)
tick_short going Quiet = tt
tick_short going (Resend ask) = (omega arith, tt)
tick_short going (ResendEnd status) = (omega arith, tt)
tick_short true (Over status) = (tt, (omega arith, tt))
tick_short false (Over status) = tt

read_opens : (d : Download) (stage : Reading) (now : ℕ) → AllShort (read.opens_at d stage now).sayings
read_opens d reading.Unasked now = (omega arith, tt)
read_opens d (reading.Asking w) now = tt
read_opens d (reading.Receiving r) now = tt
read_opens d (reading.Over status) now = tt

read_agrees : (d : Download) (agreed now : ℕ) → AllShort (read.agrees d agreed now).sayings
read_agrees d agreed now = by (nat_lt d.asked agreed)
  where
    by : (b : Bool) → AllShort (if b then record { after = read.at_stage d (reading.Over OutOfRange); sayings = says (completion OutOfRange) ∷ [] } else read.receives d agreed (new_receiver agreed d.window d.chunk now)).sayings
    by true = (omega arith, tt)
    by false = (tt, (omega arith, tt))

read_asking : (d : Download) (w : Wait) (x : Word) (now : ℕ) → AllShort (read.asking_hears d w x now).sayings
read_asking d w (start_ack agreed) now = read_agrees d agreed now
read_asking d w (completion status) now = (omega arith, tt)
read_asking d w (start r o) now = tt
read_asking d w (confirmation ask) now = tt
read_asking d w (parameters ask) now = tt
read_asking d w (data_comes p) now = tt
read_asking d w completion_ack now = tt

read_completed : (d : Download) (p : Phase) (status : Status) → AllShort (read.completed d p status).sayings
read_completed d (phase.Completing own) status = (omega arith, tt)
read_completed d phase.Receiving status = (tt, (omega arith, tt))
read_completed d phase.Recovering status = (tt, (omega arith, tt))
read_completed d phase.Ended status = (tt, (omega arith, tt))

read_acknowledged : (d : Download) (p : Phase) → AllShort (read.acknowledged d p).sayings
read_acknowledged d (phase.Completing own) = tt
read_acknowledged d phase.Receiving = tt
read_acknowledged d phase.Recovering = tt
read_acknowledged d phase.Ended = tt

read_receiving : (d : Download) (r : Receiver) (x : Word) (now : ℕ) → AllShort (read.receiving_hears d r x now).sayings
read_receiving d r (data_comes p) now = piece_answer_short p.bytes (outcome_of r p now).answer
read_receiving d r (completion status) now = read_completed d r.phase status
read_receiving d r completion_ack now = read_acknowledged d r.phase
read_receiving d r (start a o) now = tt
read_receiving d r (start_ack a) now = tt
read_receiving d r (confirmation ask) now = tt
read_receiving d r (parameters ask) now = tt

read_hears : (d : Download) (stage : Reading) (x : Word) (now : ℕ) → AllShort (read.hears_at d stage x now).sayings
read_hears d reading.Unasked x now = tt
read_hears d (reading.Asking w) x now = read_asking d w x now
read_hears d (reading.Receiving r) x now = read_receiving d r x now
read_hears d (reading.Over status) x now = tt

left_short : (b : Bool) → AllShort (if b then leaves ∷ [] else [])
left_short true = (tt, tt)
left_short false = tt

read_closes : (d : Download) (stage : Reading) (status : Status) → AllShort (read.closes_at d stage status).sayings
read_closes d (reading.Over ended) status = tt
read_closes d reading.Unasked status = tt
read_closes d (reading.Asking w) status = tt
read_closes d (reading.Receiving r) status = left_short (is_open r.phase)

read_ticks : (d : Download) (stage : Reading) (now : ℕ) → AllShort (read.ticks_at d stage now).sayings
read_ticks d reading.Unasked now = tt
read_ticks d (reading.Asking w) now =
    late_short (waiting.is_late w now) (waiting.has_resends w) (read.asks d (waiting.again w now)) (staying (read.at_stage d (reading.Over DeadlineExceeded))) (staying d)
    (omega arith, tt) tt tt
read_ticks d (reading.Receiving r) now = tick_short (is_open r.phase) (tick_outcome r now).answer
read_ticks d (reading.Over status) now = tt

-- All polls.

any_words : (session : ℕ) (mail : List Mail) → WordsIn session (λ w. Unit {0}) mail
any_words session [] = tt
any_words session (Text text ∷ mail) = (λ w e. tt, any_words session mail)
any_words session (Closed status ∷ mail) = any_words session mail

read_keeps : (session : ℕ) → KeepsSteps read_rules session (λ d said. AllShort said) (λ w. Unit {0})
read_keeps session = record {
  opens = λ d said now j. all_append Short said _ j (read_opens d d.stage now);
  hears = λ d said w now j h. all_append Short said _ j (read_hears d d.stage w now);
  closes = λ d said status j. all_append Short said _ j (read_closes d d.stage status);
  ticks = λ d said now j. all_append Short said _ j (read_ticks d d.stage now);
}

write_keeps : (session : ℕ) → KeepsSteps write_rules session (λ u said. AllShort said) (λ w. Unit {0})
write_keeps session = record {
  opens = λ u said now j. all_append Short said _ j (write_opens u u.stage now);
  hears = λ u said w now j h. all_append Short said _ j (write_hears u u.stage w now);
  closes = λ u said status j. all_append Short said _ j (write_closes u u.stage status);
  ticks = λ u said now j. all_append Short said _ j (write_ticks u u.stage now);
}

abbrev pub IsShortOut : Out → Type 0
IsShortOut out = is_long_out out ≡ false

text_short : (text : List ℕ) → length text ≤ 8000 → is_long text ≡ false
text_short text few = grind (arith, nat_tests)

outs_short : (session : ℕ) (xs : List Saying) → AllShort xs → AllByRecursion IsShortOut (outs_of session xs)
outs_short session [] all = tt
outs_short session (says w ∷ xs) all = (text_short (text_in session w) (omega (arith, words_are_short session w, all.0)), outs_short session xs all.1)
outs_short session (begins resource offset ∷ xs) all = (refl, outs_short session xs all.1)
outs_short session (appends bytes ∷ xs) all = (refl, outs_short session xs all.1)
outs_short session (commits ∷ xs) all = (refl, outs_short session xs all.1)
outs_short session (leaves ∷ xs) all = (refl, outs_short session xs all.1)

-- NOTHING THAT A TRANSFER SAYS IS LONG
pub says_short : (session : ℕ) (t : Transfer) (mail : List Mail) (now : ℕ) → AllByRecursion IsShortOut (transfer_says session t mail now)
says_short session (reads d) mail now =
    outs_short session (polled read_rules session d mail now).sayings
    (poll_keeps read_rules session (λ x said. AllShort said) (λ w. Unit {0}) (read_keeps session) d [] mail now (any_words session mail) tt)
says_short session (writes u) mail now =
    outs_short session (polled write_rules session u mail now).sayings
    (poll_keeps write_rules session (λ x said. AllShort said) (λ w. Unit {0}) (write_keeps session) u [] mail now (any_words session mail) tt)

pub short_at : (outs : List Out) (i : ℕ) (out : Out) → i < length outs → AllByRecursion IsShortOut outs → IsShortOut (get_or outs i out)
short_at [] i out within all = absurd (omega (arith, within))
short_at (x ∷ outs) zero out within all = all.0
short_at (x ∷ outs) (suc i) out within all = short_at outs i out (omega (arith, within)) all.1
