-- What goes out at once is within the limits on answers.
use Rattle.std.proofs.Common.{◌≡◌, ℕ, zero, suc, ◌+◌, ◌*◌, ◌-◌, ◌≤◌, ◌==◌, ◌||◌, Bool, true, false, if◌then◌else◌, nat_lt, nat_le, min, List, [], ◌∷◌, ◌++◌, flat_map, length, take, drop, Option, Some, None, Result, Ok, Err, unwrap_or, refl, sym, subst, arith, length-append}
use Rattle.std.proofs.lemmas.Bool.Decides.{nat_tests}
use Rattle.std.proofs.lemmas.List.{length-take, map-append}
use Rattle.std.specs.List.{list_any}
use Rattle.rpc_ids.specs.declared.Status.{Status}
use Rattle.rpc_ids.specs.declared.Status.TheVariants.{OutOfRange, ResourceExhausted, Unimplemented, DeadlineExceeded, FailedPrecondition}
use Rattle.rpc_handlers.specs.declared.answer.Out.{Out}
use Rattle.rpc_handlers.specs.declared.answer.Out.TheVariants.{Begin, Append, Commit, Leave}
use Rattle.rpc_handlers.specs.Limits.{is_long, is_long_out}
use Rattle.transfer_base.specs.declared.Ask.{Ask}
use Rattle.transfer_base.specs.declared.Piece.{Piece}
use Rattle.transfer_chunk.specs.declared.ChunkType.{ChunkType}
use Rattle.transfer_chunk.specs.declared.ChunkType.TheVariants.{Data, Start, ParametersRetransmit, ParametersContinue, Completion, CompletionAck, StartAck, StartAckConfirmation}
use Rattle.transfer_chunk.specs.Chunk.{Chunk}
use Rattle.transfer_chunk.specs.ChunkTypes.{type_of}
use Rattle.transfer_sender.specs.Sender.{Sender, new_sender, touched, ticked}
use Rattle.transfer_sender.specs.Answer.{answer_to, chunk_size, is_past_end, pieces_for, pieces_again, empty_last_piece}
use Rattle.transfer_sender.specs.Cut.{piece_at, pieces_up_to, pieces_of_window}
use Rattle.transfer_receiver.specs.declared.answers.Received.{Received}
use Rattle.transfer_receiver.specs.declared.answers.Received.TheVariants.{Ignored, Kept, Again, Ends}
use Rattle.transfer_receiver.specs.declared.answers.Ticked.{Ticked}
use Rattle.transfer_receiver.specs.declared.answers.Ticked.TheVariants.{Quiet, Resend, ResendEnd, Over}
use Rattle.transfer_receiver.specs.declared.phase.Phase.{Phase}
use Rattle.transfer_receiver.specs.declared.phase.Phase.TheVariants as phase
use Rattle.transfer_receiver.specs.Phase.{is_open}
use Rattle.transfer_receiver.specs.Receiver.{Receiver, new_receiver, first_ask}
use Rattle.transfer_receiver.specs.Run.{outcome_of}
use Rattle.transfer_receiver.specs.TickRules.{tick_outcome}
use Rattle.transfer_receiver.specs.Answers.{is_okay}
use Rattle.transfer_words.specs.Word.{Word, start, start_ack, confirmation, parameters, data_comes, completion, completion_ack}
use Rattle.transfer_words.specs.Spoken.{text_in, data_length, said_by}
use Rattle.transfer_words.specs.Saying.{Saying, Stepped, says, appends, commits, leaves, out_of, outs_of}
use Rattle.transfer_words.specs.CoreAnswers.{said_pieces, said_or_ended, of_answer, of_timeout, kept_last, end_work, of_piece, of_tick}
use Rattle.transfer_words.proofs.SpokenLaws.{words_are_short}
use Rattle.transfer_resume.specs.declared.side.Side.{Side}
use Rattle.transfer_resume.specs.declared.side.Side.TheVariants.{Read, Write}
use Rattle.transfer_resume.specs.declared.stage.Opening.{Opening}
use Rattle.transfer_resume.specs.declared.stage.Stage.{Stage}
use Rattle.transfer_resume.specs.declared.stage.Stage.TheVariants as stage
use Rattle.transfer_resume.specs.Session.{Service, Row}
use Rattle.transfer_resume.specs.Sender.{asked, sender_hears}
use Rattle.transfer_resume.specs.Receiver.{completed, acknowledged, receiver_hears, receiver_stops}
use Rattle.transfer_resume.specs.Opening.{opened, opened_read, agreed_offset, offer_of, confirmed, reading, leaving, opening_hears, opening_timeout, opening_ticks}
use Rattle.transfer_resume.specs.Hears.{ended_says, stage_hears, unknown_hears, session_hears}
use Rattle.transfer_resume.specs.Ticks.{stage_ticks, stage_stops}
use Rattle.transfer_resume.specs.Book.{Book, HasFew, in_session, spelled_all, has_room, stage_of, word_step, told_id, wanted, named, start_step, typed_step, chunk_step, row_says, tick_step, end_step, spelled}
use Rattle.transfer_resume.specs.Limits.{IsWithin, KeepsLimits}
use Rattle.transfer_resume.proofs.SpelledLemmas.{spelled_in}

-- at most so many items, and no long message among them
record Small (most : ℕ) (outs : List Out) : Type 0 where
  few : length outs ≤ most
  short : list_any is_long_out outs ≡ false

any_by : (b : Bool) (xs ys : List Out) → (list_any is_long_out xs ≡ false → list_any is_long_out (xs ++ ys) ≡ false) → (b || list_any is_long_out xs) ≡ false →
    (b || list_any is_long_out (xs ++ ys)) ≡ false
any_by true xs ys more e = e
any_by false xs ys more e = more e

any_append : (xs ys : List Out) → list_any is_long_out xs ≡ false → list_any is_long_out ys ≡ false → list_any is_long_out (xs ++ ys) ≡ false
any_append [] ys none more = more
any_append (x ∷ xs) ys none more = any_by (is_long_out x) xs ys (λ e. any_append xs ys e more) none

nothing : Small 0 []
nothing = record { few = omega arith; short = refl }

joined : (a b : ℕ) (xs ys : List Out) → Small a xs → Small b ys → Small (a + b) (xs ++ ys)
joined a b xs ys first second = record { few = omega (arith, first.few, second.few, length-append xs ys); short = any_append xs ys first.short second.short }

weaker : (a b : ℕ) (xs : List Out) → a ≤ b → Small a xs → Small b xs
weaker a b xs le small = record { few = omega (arith, small.few, le); short = small.short }

-- a word without data, or with little, is short
short_text : (s : ℕ) (w : Word) → data_length w ≤ 1024 → is_long (text_in s w) ≡ false
short_text s w little = at_most (length (text_in s w)) (omega (arith, words_are_short s w, little))
  where
    at_most : (n : ℕ) → n ≤ 8000 → nat_lt 8000 n ≡ false
    at_most n few = grind (arith, nat_tests)

word_small : (s : ℕ) (w : Word) → data_length w ≤ 1024 → Small 1 (outs_of s (says w ∷ []))
word_small s w little = record { few = omega arith; short = rw (short_text s w little) refl }

act_small : (out : Out) → is_long_out out ≡ false → Small 1 (out ∷ [])
act_small out short = record { few = omega arith; short = rw short refl }

act_and_word : (s : ℕ) (out : Out) (w : Word) → is_long_out out ≡ false → data_length w ≤ 1024 → Small 2 (out ∷ outs_of s (says w ∷ []))
act_and_word s out w short little = joined 1 1 (out ∷ []) (outs_of s (says w ∷ [])) (act_small out short) (word_small s w little)

one_word : (s : ℕ) (w : Word) → data_length w ≤ 1024 → Small 64 (outs_of s (says w ∷ []))
one_word s w little = weaker 1 64 _ (omega arith) (word_small s w little)

none : Small 64 []
none = weaker 0 64 [] (omega arith) nothing

-- What a sender sends.

take_short : (n : ℕ) (xs : List ℕ) → length (take n xs) ≤ n
take_short n xs = omega (arith, length-take n xs)

pieces_small : (s : ℕ) (resource : List ℕ) (chunk stop offset most : ℕ) → chunk ≤ 1024 → Small most (outs_of s (said_pieces (pieces_up_to resource chunk stop offset most)))
unfolding pieces_up_to
pieces_small s resource chunk stop offset zero small = nothing
pieces_small s resource chunk stop offset (suc most) small =
    by_test (nat_lt offset stop) (pieces_small s resource chunk stop (offset + min chunk (stop - offset)) most small)
  where
    by_test : (b : Bool) → Small most (outs_of s (said_pieces (pieces_up_to resource chunk stop (offset + min chunk (stop - offset)) most))) →
        Small (suc most) (outs_of s (said_pieces (if b then piece_at resource offset (min chunk (stop - offset)) ∷ pieces_up_to resource chunk stop (offset + min chunk (stop - offset)) most else [])))
    by_test true rest =
        let short = take_short (min chunk (stop - offset)) (drop offset resource) in
        weaker (1 + most) (suc most) _ (omega arith)
        (joined 1 most (outs_of s (says (data_comes (piece_at resource offset (min chunk (stop - offset)))) ∷ [])) _
        (word_small s (data_comes (piece_at resource offset (min chunk (stop - offset)))) (omega (arith, short, small))) rest)
    by_test false rest = weaker 0 (suc most) [] (omega arith) nothing

size_small_by : (n : ℕ) (b : Bool) → (if b then 1024 else min n 1024) ≤ 1024
size_small_by n true = omega arith
size_small_by n false = omega arith

size_small : (n : ℕ) → chunk_size n ≤ 1024
size_small n = size_small_by n (n == 0)

window_small : (s : ℕ) (resource : List ℕ) (asked window_end position : ℕ) → Small 64 (outs_of s (said_pieces (pieces_of_window resource (chunk_size asked) window_end position)))
window_small s resource asked window_end position = pieces_small s resource (chunk_size asked) (min window_end (length resource)) position 64 (size_small asked)

again_by : (s : ℕ) (resource : List ℕ) (ask : Ask) (b : Bool) → Small 64 (outs_of s (said_pieces (if b then empty_last_piece resource ∷ [] else pieces_of_window resource (chunk_size ask.max_chunk) ask.window_end ask.offset)))
again_by s resource ask true =
    let short = take_short 0 (drop (length resource) resource) in
    weaker 1 64 _ (omega arith) (word_small s (data_comes (empty_last_piece resource)) (omega (arith, short)))
again_by s resource ask false = window_small s resource ask.max_chunk ask.window_end ask.offset

pieces_for_by : (s : ℕ) (x : Sender) (ask : Ask) (b : Bool) →
    Small 64 (outs_of s (said_pieces (if b then pieces_again x.bytes ask else pieces_of_window x.bytes (chunk_size ask.max_chunk) ask.window_end x.position)))
pieces_for_by s x ask true = again_by s x.bytes ask (ask.offset == length x.bytes)
pieces_for_by s x ask false = window_small s x.bytes ask.max_chunk ask.window_end x.position

ended_small : (s : ℕ) (ps : List Piece) (ended : Option Status) → Small 64 (outs_of s (said_pieces ps)) → Small 64 (outs_of s (said_or_ended ps ended))
ended_small s ps None small = small
ended_small s ps (Some status) small = weaker 1 64 _ (omega arith) (word_small s (completion status) (omega arith))

answer_by : (s : ℕ) (x : Sender) (ask : Ask) (b : Bool) → is_past_end x ask ≡ b → Small 64 (outs_of s (of_answer (answer_to x ask)))
answer_by s x ask true e = rw e (one_word s (completion OutOfRange) (omega arith))
answer_by s x ask false e = rw e (ended_small s (pieces_for x ask) x.ended (pieces_for_by s x ask ask.again))

asked_small : (s now : ℕ) (x : Sender) (ask : Ask) → Small 64 (outs_of s (asked now x ask).sayings)
asked_small s now x ask = answer_by s (touched x now) ask (is_past_end (touched x now) ask) refl

-- What the stages say to a word.

sender_small : (s now : ℕ) (x : Sender) (w : Word) → Small 64 (outs_of s (sender_hears now x w).sayings)
sender_small s now x (start resource offset) = none
sender_small s now x (start_ack offset) = none
sender_small s now x (confirmation ask) = none
sender_small s now x (parameters ask) = asked_small s now x ask
sender_small s now x (data_comes p) = none
sender_small s now x (completion status) = one_word s completion_ack (omega arith)
sender_small s now x completion_ack = none

last_small : (s : ℕ) (bytes : List ℕ) (b : Bool) → Small 2 (outs_of s ((if b then [] else appends bytes ∷ []) ++ commits ∷ []))
last_small s bytes true = weaker 1 2 _ (omega arith) (act_small (Commit s) refl)
last_small s bytes false = record { few = omega arith; short = refl }

work_small : (s : ℕ) (status : Status) (bytes : List ℕ) (b : Bool) → Small 2 (outs_of s (if b then kept_last bytes ++ commits ∷ [] else leaves ∷ []))
work_small s status bytes true = last_small s bytes (length bytes == 0)
work_small s status bytes false = weaker 1 2 _ (omega arith) (act_small (Leave s) refl)

ends_small : (s : ℕ) (status : Status) (bytes : List ℕ) → Small 64 (outs_of s (end_work status bytes ++ says (completion status) ∷ []))
ends_small s status bytes =
    rw (map-append (out_of s) (end_work status bytes) (says (completion status) ∷ []))
    (weaker (2 + 1) 64 _ (omega arith) (joined 2 1 (outs_of s (end_work status bytes)) (outs_of s (says (completion status) ∷ [])) (work_small s status bytes (is_okay status)) (word_small s (completion status) (omega arith))))

piece_small : (s : ℕ) (bytes : List ℕ) (answer : Received) → Small 64 (outs_of s (of_piece bytes answer))
piece_small s bytes Ignored = none
piece_small s bytes (Kept None) = weaker 1 64 _ (omega arith) (act_small (Append s bytes) refl)
piece_small s bytes (Kept (Some ask)) = weaker 2 64 _ (omega arith) (act_and_word s (Append s bytes) (parameters ask) refl (omega arith))
piece_small s bytes (Again ask) = one_word s (parameters ask) (omega arith)
piece_small s bytes (Ends status) = ends_small s status bytes

leave_small : (s : ℕ) (w : Word) → data_length w ≤ 1024 → Small 64 (outs_of s (leaves ∷ says w ∷ []))
leave_small s w little = weaker 2 64 _ (omega arith) (act_and_word s (Leave s) w refl little)

completed_small : (s : ℕ) (r : Receiver) (phase : Phase) (told : Status) → Small 64 (outs_of s (completed r phase told).sayings)
completed_small s r (phase.Completing status) told = one_word s completion_ack (omega arith)
completed_small s r phase.Receiving told = leave_small s completion_ack (omega arith)
completed_small s r phase.Recovering told = leave_small s completion_ack (omega arith)
completed_small s r phase.Ended told = leave_small s completion_ack (omega arith)

acknowledged_small : (s : ℕ) (r : Receiver) (phase : Phase) → Small 64 (outs_of s (acknowledged r phase).sayings)
acknowledged_small s r (phase.Completing status) = none
acknowledged_small s r phase.Receiving = none
acknowledged_small s r phase.Recovering = none
acknowledged_small s r phase.Ended = none

receiver_small : (s now : ℕ) (r : Receiver) (w : Word) → Small 64 (outs_of s (receiver_hears now r w).sayings)
receiver_small s now r (start resource offset) = none
receiver_small s now r (start_ack offset) = none
receiver_small s now r (confirmation ask) = none
receiver_small s now r (parameters ask) = none
receiver_small s now r (data_comes p) = piece_small s p.bytes (outcome_of r p now).answer
receiver_small s now r (completion status) = completed_small s r r.phase status
receiver_small s now r completion_ack = acknowledged_small s r r.phase

again_small : (s : ℕ) (agreed : ℕ) (b : Bool) → Small 64 (outs_of s (if b then says (start_ack agreed) ∷ [] else []))
again_small s agreed true = one_word s (start_ack agreed) (omega arith)
again_small s agreed false = none

reading_small : (s now agreed : ℕ) (ask : Ask) (offer : Result (List ℕ) Status) → Small 64 (outs_of s (reading now agreed ask offer).sayings)
reading_small s now agreed ask (Err status) = one_word s (completion status) (omega arith)
reading_small s now agreed ask (Ok bytes) = asked_small s now (new_sender bytes agreed now) ask

confirmed_small : (s : ℕ) (side : Side) (k : Service) (o : Opening) (ask : Ask) → Small 64 (outs_of s (confirmed side k o ask).sayings)
confirmed_small s Read k o ask = reading_small s k.time o.agreed ask (offer_of k.shelf o.resource o.agreed)
confirmed_small s Write k o ask = one_word s (parameters (first_ask (new_receiver o.agreed k.window k.chunk k.time))) (omega arith)

leaving_and : (s : ℕ) (side : Side) (w : Word) → data_length w ≤ 1024 → Small 2 (outs_of s (leaving side ++ says w ∷ []))
leaving_and s Read w little = weaker 1 2 _ (omega arith) (word_small s w little)
leaving_and s Write w little = act_and_word s (Leave s) w refl little

opening_small : (s : ℕ) (k : Service) (o : Opening) (w : Word) → Small 64 (outs_of s (opening_hears k o w).sayings)
opening_small s k o (start resource offset) = again_small s o.agreed (o.resource == resource)
opening_small s k o (start_ack offset) = none
opening_small s k o (confirmation ask) = confirmed_small s k.side k o ask
opening_small s k o (parameters ask) = none
opening_small s k o (data_comes p) = none
opening_small s k o (completion status) = weaker 2 64 _ (omega arith) (leaving_and s k.side completion_ack (omega arith))
opening_small s k o completion_ack = none

ended_says_small : (s : ℕ) (status : Status) (w : Word) → Small 64 (outs_of s (ended_says status w))
ended_says_small s status (start resource offset) = one_word s (completion status) (omega arith)
ended_says_small s status (start_ack offset) = one_word s (completion status) (omega arith)
ended_says_small s status (confirmation ask) = one_word s (completion status) (omega arith)
ended_says_small s status (parameters ask) = one_word s (completion status) (omega arith)
ended_says_small s status (data_comes p) = one_word s (completion status) (omega arith)
ended_says_small s status (completion told) = one_word s completion_ack (omega arith)
ended_says_small s status completion_ack = none

stage_small : (s : ℕ) (k : Service) (stage : Stage) (w : Word) → Small 64 (outs_of s (stage_hears k stage w).sayings)
stage_small s k (stage.Opening o) w = opening_small s k o w
stage_small s k (stage.Sending x) w = sender_small s k.time x w
stage_small s k (stage.Receiving r) w = receiver_small s k.time r w
stage_small s k (stage.Ended status) w = ended_says_small s status w

opened_read_small : (s now resource offset : ℕ) (offer : Result (List ℕ) Status) → Small 64 (outs_of s (opened_read now resource offset offer).sayings)
opened_read_small s now resource offset (Err status) = one_word s (completion status) (omega arith)
opened_read_small s now resource offset (Ok bytes) = one_word s (start_ack offset) (omega arith)

opened_small : (s : ℕ) (side : Side) (k : Service) (resource offset : ℕ) → Small 64 (outs_of s (opened side k resource offset).sayings)
opened_small s Read k resource offset = opened_read_small s k.time resource offset (offer_of k.shelf resource offset)
opened_small s Write k resource offset = weaker 2 64 _ (omega arith) (act_and_word s (Begin s resource (agreed_offset k.shelf resource offset)) (start_ack (agreed_offset k.shelf resource offset)) refl (omega arith))

room_small : (s : ℕ) (k : Service) (room : Bool) (resource offset : ℕ) → Small 64 (outs_of s (unknown_hears k room (start resource offset)).sayings)
room_small s k true resource offset = opened_small s k.side k resource offset
room_small s k false resource offset = one_word s (completion ResourceExhausted) (omega arith)

unknown_small : (s : ℕ) (k : Service) (room : Bool) (w : Word) → Small 64 (outs_of s (unknown_hears k room w).sayings)
unknown_small s k room (start resource offset) = room_small s k room resource offset
unknown_small s k room (start_ack offset) = one_word s (completion FailedPrecondition) (omega arith)
unknown_small s k room (confirmation ask) = one_word s (completion FailedPrecondition) (omega arith)
unknown_small s k room (parameters ask) = one_word s (completion FailedPrecondition) (omega arith)
unknown_small s k room (data_comes p) = one_word s (completion FailedPrecondition) (omega arith)
unknown_small s k room (completion status) = one_word s completion_ack (omega arith)
unknown_small s k room completion_ack = none

session_small : (s : ℕ) (k : Service) (room : Bool) (state : Option Stage) (w : Word) → Small 64 (outs_of s (session_hears k room state w).sayings)
session_small s k room (Some stage) w = stage_small s k stage w
session_small s k room None w = unknown_small s k room w

-- What all sessions say to a chunk.

spelled_small : (most id : ℕ) (sayings : List Saying) → Small most (outs_of id sayings) → Small most (spelled_all (in_session id sayings))
spelled_small most id sayings small = subst (Small most) (sym (spelled_in id sayings)) small

word_step_small : (b : Book) (id : ℕ) (w : Word) → Small 64 (spelled_all (word_step b id w).outs)
word_step_small b id w = spelled_small 64 id (session_hears b.service (has_room b) (stage_of id b.rows) w).sayings (session_small id b.service (has_room b) (stage_of id b.rows) w)

wanted_by : (b : Book) (c : Chunk) (id : ℕ) (test : Bool) → Small 64 (spelled_all (if test then record { after = b; outs = [] } else word_step b id (said_by Start c)).outs)
wanted_by b c id true = none
wanted_by b c id false = word_step_small b id (said_by Start c)

wanted_small : (b : Book) (c : Chunk) (id : Option ℕ) → Small 64 (spelled_all (wanted b c id).outs)
wanted_small b c None = none
wanted_small b c (Some id) = wanted_by b c id (id == 0)

start_by : (b : Book) (c : Chunk) (test : Bool) → nat_lt (unwrap_or c.version 0) 2 ≡ test → Small 64 (spelled_all (start_step b c).outs)
start_by b c true e = rw e (spelled_small 64 (told_id c) (says (completion Unimplemented) ∷ []) (one_word (told_id c) (completion Unimplemented) (omega arith)))
start_by b c false e = rw e (wanted_small b c c.desired)

named_small : (b : Book) (type : ChunkType) (c : Chunk) (id : Option ℕ) → Small 64 (spelled_all (named b type c id).outs)
named_small b type c None = none
named_small b type c (Some id) = word_step_small b id (said_by type c)

typed_small : (b : Book) (c : Chunk) (type : Option ChunkType) → Small 64 (spelled_all (typed_step b c type).outs)
typed_small b c None = none
typed_small b c (Some Start) = start_by b c (nat_lt (unwrap_or c.version 0) 2) refl
typed_small b c (Some Data) = named_small b Data c c.session
typed_small b c (Some ParametersRetransmit) = named_small b ParametersRetransmit c c.session
typed_small b c (Some ParametersContinue) = named_small b ParametersContinue c c.session
typed_small b c (Some Completion) = named_small b Completion c c.session
typed_small b c (Some CompletionAck) = named_small b CompletionAck c c.session
typed_small b c (Some StartAck) = named_small b StartAck c c.session
typed_small b c (Some StartAckConfirmation) = named_small b StartAckConfirmation c c.session

-- What a session says to a tick, and to the end of the call.

timeout_small : (s : ℕ) (side : Side) (now : ℕ) (o : Opening) (test : Bool) → (o.timeouts + 1 == 5) ≡ test → Small 2 (outs_of s (opening_timeout side now o).sayings)
timeout_small s side now o true e = rw e (leaving_and s side (completion DeadlineExceeded) (omega arith))
timeout_small s side now o false e = rw e (weaker 0 2 [] (omega arith) nothing)

ticks_by : (s : ℕ) (side : Side) (now : ℕ) (o : Opening) (test : Bool) → nat_le (o.active + 2000) now ≡ test → Small 2 (outs_of s (opening_ticks side now o).sayings)
ticks_by s side now o true e = rw e (timeout_small s side now o (o.timeouts + 1 == 5) refl)
ticks_by s side now o false e = rw e (weaker 0 2 [] (omega arith) nothing)

sender_ticks_small : (s : ℕ) (ended : Option Status) → Small 2 (outs_of s (of_timeout ended))
sender_ticks_small s None = weaker 0 2 [] (omega arith) nothing
sender_ticks_small s (Some status) = weaker 1 2 _ (omega arith) (word_small s (completion status) (omega arith))

over_small : (s : ℕ) (status : Status) (going : Bool) → Small 2 (outs_of s (if going then leaves ∷ says (completion status) ∷ [] else []))
over_small s status true = act_and_word s (Leave s) (completion status) refl (omega arith)
over_small s status false = weaker 0 2 [] (omega arith) nothing

receiver_ticks_small : (s : ℕ) (going : Bool) (answer : Ticked) → Small 2 (outs_of s (of_tick going answer))
receiver_ticks_small s going Quiet = weaker 0 2 [] (omega arith) nothing
receiver_ticks_small s going (Resend ask) = weaker 1 2 _ (omega arith) (word_small s (parameters ask) (omega arith))
receiver_ticks_small s going (ResendEnd status) = weaker 1 2 _ (omega arith) (word_small s (completion status) (omega arith))
receiver_ticks_small s going (Over status) = over_small s status going

stage_ticks_small : (side : Side) (now s : ℕ) (stage : Stage) → Small 2 (outs_of s (stage_ticks side now stage).sayings)
stage_ticks_small side now s (stage.Opening o) = ticks_by s side now o (nat_le (o.active + 2000) now) refl
stage_ticks_small side now s (stage.Sending x) = sender_ticks_small s (ticked x now).ended
stage_ticks_small side now s (stage.Receiving r) = receiver_ticks_small s (is_open r.phase) (tick_outcome r now).answer
stage_ticks_small side now s (stage.Ended status) = weaker 0 2 [] (omega arith) nothing

leaving_small : (s : ℕ) (side : Side) → Small 2 (outs_of s (leaving side))
leaving_small s Read = weaker 0 2 [] (omega arith) nothing
leaving_small s Write = weaker 1 2 _ (omega arith) (act_small (Leave s) refl)

stops_small : (s : ℕ) (phase : Phase) → Small 2 (outs_of s (receiver_stops phase).sayings)
stops_small s (phase.Completing status) = weaker 0 2 [] (omega arith) nothing
stops_small s phase.Receiving = weaker 1 2 _ (omega arith) (act_small (Leave s) refl)
stops_small s phase.Recovering = weaker 1 2 _ (omega arith) (act_small (Leave s) refl)
stops_small s phase.Ended = weaker 1 2 _ (omega arith) (act_small (Leave s) refl)

stage_stops_small : (side : Side) (s : ℕ) (stage : Stage) → Small 2 (outs_of s (stage_stops side stage).sayings)
stage_stops_small side s (stage.Opening o) = leaving_small s side
stage_stops_small side s (stage.Sending x) = weaker 0 2 [] (omega arith) nothing
stage_stops_small side s (stage.Receiving r) = stops_small s r.phase
stage_stops_small side s (stage.Ended status) = weaker 0 2 [] (omega arith) nothing

rows_small : (f : Stage → Stepped Stage) → ((s : ℕ) (stage : Stage) → Small 2 (outs_of s (f stage).sayings)) → (rows : List Row) → Small (2 * length rows) (spelled_all (flat_map (row_says f) rows))
rows_small f each [] = nothing
rows_small f each (r ∷ rows) =
    rw (map-append spelled (row_says f r) (flat_map (row_says f) rows))
    (weaker (2 + 2 * length rows) (2 * length (r ∷ rows)) _ (omega arith)
    (joined 2 (2 * length rows) (spelled_all (row_says f r)) (spelled_all (flat_map (row_says f) rows)) (spelled_small 2 r.id (f r.stage).sayings (each r.id r.stage)) (rows_small f each rows)))

within : (most : ℕ) (outs : List Out) → most ≤ 512 → Small most outs → IsWithin outs
within most outs le small = record { few = omega (arith, small.few, le); short = small.short }

pub chunk_within : (b : Book) (c : Chunk) → IsWithin (spelled_all (chunk_step b c).outs)
chunk_within b c = within 64 _ (omega arith) (typed_small b c (type_of c))

pub tick_within : (b : Book) (now : ℕ) → HasFew b → IsWithin (spelled_all (tick_step b now).outs)
tick_within b now few = within (2 * length b.rows) _ (omega (arith, few)) (rows_small (stage_ticks b.service.side now) (stage_ticks_small b.service.side now) b.rows)

pub end_within : (b : Book) → HasFew b → IsWithin (spelled_all (end_step b).outs)
end_within b few = within (2 * length b.rows) _ (omega (arith, few)) (rows_small (stage_stops b.service.side) (stage_stops_small b.service.side) b.rows)

-- the same of what is said to be those items
pub chunk_outs_within : (b : Book) (c : Chunk) (outs : List Out) → outs ≡ spelled_all (chunk_step b c).outs → IsWithin outs
chunk_outs_within b c outs same = subst IsWithin (sym same) (chunk_within b c)

pub tick_outs_within : (b : Book) (now : ℕ) (outs : List Out) → HasFew b → outs ≡ spelled_all (tick_step b now).outs → IsWithin outs
tick_outs_within b now outs few same = subst IsWithin (sym same) (tick_within b now few)

pub end_outs_within : (b : Book) (outs : List Out) → HasFew b → outs ≡ spelled_all (end_step b).outs → IsWithin outs
end_outs_within b outs few same = subst IsWithin (sym same) (end_within b few)

pub keeps_limits : KeepsLimits
keeps_limits = record { at_chunk = chunk_within; at_tick = tick_within; at_end = end_within }
