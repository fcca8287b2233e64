-- One session of the service: where a write begins, and what a read says.
use Rattle.std.proofs.Common.{◌≡◌, ℕ, ◌+◌, ◌==◌, ◌||◌, nat_lt, nat_le, Bool, true, false, if◌then◌else◌, List, [], ◌∷◌, ◌++◌, length, Option, Some, None, Ok, Err, option_map, refl, sym, ap, ◌∙◌, subst}
use Rattle.std.proofs.lemmas.Bool.{false≢true}
use Rattle.std.proofs.lemmas.List.{append-nil}
use Rattle.std.proofs.lemmas.List.Elements.{recursion_from_All}
use Rattle.std.specs.List.{AllByRecursion}
use Rattle.rpc_ids.specs.declared.Status.{Status}
use Rattle.rpc_ids.specs.declared.Status.TheVariants.{Okay, OutOfRange, DeadlineExceeded}
use Rattle.link_io.specs.declared.Shelf.{Shelf}
use Rattle.link_io.specs.Resources.{first_of}
use Rattle.transfer_base.specs.declared.Ask.{Ask}
use Rattle.transfer_base.specs.declared.Piece.{Piece}
use Rattle.transfer_base.specs.declared.limits.TheConstants.{MAX_RESOURCE, TIMEOUT}
use Rattle.transfer_base.specs.PieceLists.{IsPartOf, end_of}
use Rattle.transfer_chunk.specs.declared.ChunkType.{ChunkType}
use Rattle.transfer_chunk.specs.declared.ChunkType.TheVariants.{Data, Start, ParametersRetransmit, ParametersContinue, Completion, CompletionAck, StartAck, StartAckConfirmation}
use Rattle.transfer_chunk.specs.Chunk.{Chunk}
use Rattle.transfer_chunk.specs.ChunkTypes.{type_of}
use Rattle.transfer_sender.specs.declared.sender.TheConstants.{MAX_TIMEOUTS}
use Rattle.transfer_sender.specs.Sender.{Sender, new_sender, touched}
use Rattle.transfer_sender.specs.Answer.{Answer, answer_to, is_past_end, pieces_for, start_of}
use Rattle.transfer_sender.specs.Run.{ask_comes}
use Rattle.transfer_sender.proofs.RunLaws.{sends_parts}
use Rattle.transfer_receiver.specs.declared.phase.Phase.{Phase}
use Rattle.transfer_receiver.specs.declared.phase.Phase.TheVariants as phase
use Rattle.transfer_receiver.specs.declared.answers.Received.{Received}
use Rattle.transfer_receiver.specs.declared.answers.Received.TheVariants.{Ignored, Kept, Again, Ends}
use Rattle.transfer_receiver.specs.declared.answers.Ticked.{Ticked}
use Rattle.transfer_receiver.specs.declared.answers.Ticked.TheVariants.{Quiet, Resend, ResendEnd, Over}
use Rattle.transfer_receiver.specs.Phase.{is_open}
use Rattle.transfer_receiver.specs.Answers.{is_okay}
use Rattle.transfer_receiver.specs.Receiver.{Receiver}
use Rattle.transfer_receiver.specs.Run.{outcome_of}
use Rattle.transfer_receiver.specs.TickRules.{tick_outcome}
use Rattle.transfer_words.specs.Word.{Word, start, start_ack, confirmation, parameters, data_comes, completion, completion_ack}
use Rattle.transfer_words.specs.Spoken.{said_by}
use Rattle.transfer_words.specs.Saying.{Saying, Stepped, says, appends, commits, leaves}
use Rattle.transfer_words.specs.CoreAnswers.{of_answer, of_piece, of_tick, of_timeout, said_or_ended, said_pieces}
use Rattle.transfer_resume.specs.declared.side.Side.TheVariants.{Read, Write}
use Rattle.transfer_resume.specs.declared.stage.Opening.{Opening}
use Rattle.transfer_resume.specs.declared.stage.Stage.{Stage}
use Rattle.transfer_resume.specs.declared.stage.Stage.TheVariants as stage
use Rattle.transfer_resume.specs.Book.{new_book}
use Rattle.transfer_resume.specs.Sender.{asked, sender_hears, sending_or_ended}
use Rattle.transfer_resume.specs.Receiver.{acknowledged, completed, receiver_stops, receiving_or_over}
use Rattle.transfer_resume.specs.Opening.{agreed_offset, offered, opened_read, opening_timeout, reading}
use Rattle.transfer_resume.specs.Hears.{stage_hears, unknown_hears}
use Rattle.transfer_resume.specs.Ticks.{stage_ticks, stage_stops}
use Rattle.transfer_resume.specs.Uploads.{Comes, chunk_comes, time_comes, call_ends, outs_over}
use Rattle.transfer_laws.specs.words.Said.{IsPieceOf, OkayWhere, SaysOkayWhere, SaysPiecesOf}
use Rattle.transfer_laws.specs.words.Service.{AllChunks, BeginsOn, OkayIn, ReadsAreHonest, ReadsEndAsTold, StartsOn, WritesBeginAsAsked}
use Rattle.transfer_laws.proofs.words.Sessions.{Brings, Done, Keeps, Opened, all_said, serving}

-- where this is so, each of these is
pub each_where : {A : Type 0} (E : Type 0) (Q : A → Type 0) (xs : List A) → (E → AllByRecursion Q xs) → AllByRecursion (λ x. E → Q x) xs
each_where E Q [] all = tt
each_where E Q (x ∷ xs) all = (λ e. (all e).0, each_where E Q xs (λ e. (all e).1))

pub all_chunks : (P Q : Chunk → Type 0) → ((c : Chunk) → P c → Q c) → (es : List Comes) → AllChunks P es → AllChunks Q es
all_chunks P Q f [] all = tt
all_chunks P Q f (chunk_comes c ∷ es) all = (f c all.0, all_chunks P Q f es all.1)
all_chunks P Q f (time_comes now ∷ es) all = (tt, all_chunks P Q f es all.1)
all_chunks P Q f (call_ends ∷ es) all = (tt, all_chunks P Q f es all.1)

-- A write.
module _ (resource offset : ℕ) where
  abbrev Quiet1 : List Saying → Type 0
  Quiet1 ss = AllByRecursion (BeginsOn resource offset) ss

  ends_quiet : (bytes : List ℕ) (status : Status) (ok empty : Bool)
      → Quiet1 ((if ok then (if empty then [] else appends bytes ∷ []) ++ commits ∷ [] else leaves ∷ []) ++ says (completion status) ∷ [])
  ends_quiet bytes status true true = (tt, (tt, tt))
  ends_quiet bytes status true false = (tt, (tt, (tt, tt)))
  ends_quiet bytes status false empty = (tt, (tt, tt))

  piece_quiet : (bytes : List ℕ) (answer : Received) → Quiet1 (of_piece bytes answer)
  piece_quiet bytes Ignored = tt
  piece_quiet bytes (Kept None) = (tt, tt)
  piece_quiet bytes (Kept (Some ask)) = (tt, (tt, tt))
  piece_quiet bytes (Again ask) = (tt, tt)
  piece_quiet bytes (Ends status) = ends_quiet bytes status (is_okay status) (length bytes == 0)

  tick_quiet : (going : Bool) (answer : Ticked) → Quiet1 (of_tick going answer)
  tick_quiet going Quiet = tt
  tick_quiet going (Resend ask) = (tt, tt)
  tick_quiet going (ResendEnd status) = (tt, tt)
  tick_quiet true (Over status) = (tt, (tt, tt))
  tick_quiet false (Over status) = tt

  -- where a session of Write stands so; none sends
  abbrev Begun : Stage → Type 0
  Begun (stage.Opening o) = o.agreed ≡ offset
  Begun (stage.Sending s) = ⊥
  Begun (stage.Receiving r) = Unit {0}
  Begun (stage.Ended status) = Unit {0}

  abbrev BegunDone : Stepped Stage → Type 0
  BegunDone t = Begun t.after × Quiet1 t.sayings

  again_begins : (b : Bool) (agreed : ℕ) → agreed ≡ offset → Quiet1 (if b then says (start_ack agreed) ∷ [] else [])
  again_begins true agreed is = (is, tt)
  again_begins false agreed is = tt

  module _ (shelf : Shelf) (window chunk : ℕ) where
    write_hears : (time : ℕ) (s : Stage) (w : Word) → Begun s → BegunDone (stage_hears (serving Write shelf window chunk time) s w)
    write_hears time (stage.Opening o) (start r x) is = (is, again_begins (o.resource == r) o.agreed is)
    write_hears time (stage.Opening o) (start_ack x) is = (is, tt)
    write_hears time (stage.Opening o) (confirmation ask) is = (tt, (tt, tt))
    write_hears time (stage.Opening o) (parameters ask) is = (is, tt)
    write_hears time (stage.Opening o) (data_comes p) is = (is, tt)
    write_hears time (stage.Opening o) (completion status) is = (tt, (tt, (tt, tt)))
    write_hears time (stage.Opening o) completion_ack is = (is, tt)
    write_hears time (stage.Sending s) w is = absurd is
    write_hears time (stage.Receiving r) (start x y) is = (tt, tt)
    write_hears time (stage.Receiving r) (start_ack x) is = (tt, tt)
    write_hears time (stage.Receiving r) (confirmation ask) is = (tt, tt)
    write_hears time (stage.Receiving r) (parameters ask) is = (tt, tt)
    write_hears time (stage.Receiving r) (data_comes p) is = (tt, piece_quiet p.bytes (outcome_of r p time).answer)
    write_hears time (stage.Receiving r) (completion told) is = by_phase r.phase
      where
        by_phase : (p : Phase) → BegunDone (completed r p told)
        by_phase phase.Receiving = (tt, (tt, (tt, tt)))
        by_phase phase.Recovering = (tt, (tt, (tt, tt)))
        by_phase (phase.Completing status) = (tt, (tt, tt))
        by_phase phase.Ended = (tt, (tt, (tt, tt)))
    write_hears time (stage.Receiving r) completion_ack is = by_phase r.phase
      where
        by_phase : (p : Phase) → BegunDone (acknowledged r p)
        by_phase phase.Receiving = (tt, tt)
        by_phase phase.Recovering = (tt, tt)
        by_phase (phase.Completing status) = (tt, tt)
        by_phase phase.Ended = (tt, tt)
    write_hears time (stage.Ended status) (start x y) is = (tt, (tt, tt))
    write_hears time (stage.Ended status) (start_ack x) is = (tt, (tt, tt))
    write_hears time (stage.Ended status) (confirmation ask) is = (tt, (tt, tt))
    write_hears time (stage.Ended status) (parameters ask) is = (tt, (tt, tt))
    write_hears time (stage.Ended status) (data_comes p) is = (tt, (tt, tt))
    write_hears time (stage.Ended status) (completion told) is = (tt, (tt, tt))
    write_hears time (stage.Ended status) completion_ack is = (tt, tt)

  late_begun : (now : ℕ) (o : Opening) (b : Bool) → o.agreed ≡ offset
      → BegunDone (if b then record { after = stage.Ended DeadlineExceeded; sayings = leaves ∷ says (completion DeadlineExceeded) ∷ [] } else record { after = stage.Opening (record o { active = now; timeouts = o.timeouts + 1 }); sayings = [] })
  late_begun now o true is = (tt, (tt, (tt, tt)))
  late_begun now o false is = (is, tt)

  opening_begun : (now : ℕ) (o : Opening) (b : Bool) → o.agreed ≡ offset → BegunDone (if b then opening_timeout Write now o else record { after = stage.Opening o; sayings = [] })
  opening_begun now o true is = late_begun now o (o.timeouts + 1 == MAX_TIMEOUTS) is
  opening_begun now o false is = (is, tt)

  over_begun : (r : Receiver) (t : Ticked) → Begun (receiving_or_over r t)
  over_begun r Quiet = tt
  over_begun r (Resend ask) = tt
  over_begun r (ResendEnd status) = tt
  over_begun r (Over status) = tt

  write_ticks : (now : ℕ) (s : Stage) → Begun s → BegunDone (stage_ticks Write now s)
  write_ticks now (stage.Opening o) is = opening_begun now o (nat_le (o.active + TIMEOUT) now) is
  write_ticks now (stage.Sending s) is = absurd is
  write_ticks now (stage.Receiving r) is = (over_begun (tick_outcome r now).after (tick_outcome r now).answer, tick_quiet (is_open r.phase) (tick_outcome r now).answer)
  write_ticks now (stage.Ended status) is = (tt, tt)

  write_stops : (s : Stage) → Begun s → BegunDone (stage_stops Write s)
  write_stops (stage.Opening o) is = (tt, (tt, tt))
  write_stops (stage.Sending s) is = absurd is
  write_stops (stage.Receiving r) is = by_phase r.phase
    where
      by_phase : (p : Phase) → BegunDone (receiver_stops p)
      by_phase phase.Receiving = (tt, (tt, tt))
      by_phase phase.Recovering = (tt, (tt, tt))
      by_phase (phase.Completing status) = (tt, tt)
      by_phase phase.Ended = (tt, (tt, tt))
  write_stops (stage.Ended status) is = (tt, tt)

-- In a session of this id.
module _ (shelf : Shelf) (window chunk id resource wanted : ℕ) where
  abbrev agreed : ℕ
  agreed = agreed_offset shelf resource wanted

  abbrev WordAsks : Word → Type 0
  WordAsks (start r o) = (r ≡ resource) × (o ≡ wanted)
  WordAsks _ = Unit {0}

  abbrev WI : ℕ → Stage → Type 0
  WI k s = k ≡ id → Begun resource agreed s

  abbrev WS : ℕ → Saying → Type 0
  WS k x = k ≡ id → BeginsOn resource agreed x

  abbrev WW : ℕ → Word → Type 0
  WW k w = k ≡ id → WordAsks w

  write_done : (k : ℕ) (t : Stepped Stage) → (k ≡ id → BegunDone resource agreed t) → Done Write shelf window chunk WI WS WW k t
  write_done k t done = (λ e. (done e).0, each_where (k ≡ id) (BeginsOn resource agreed) t.sayings (λ e. (done e).1))

  same_offset : (r o : ℕ) → r ≡ resource → o ≡ wanted → agreed_offset shelf r o ≡ agreed
  same_offset r o e f = rw (e, f) refl

  write_opens : (time k : ℕ) (room : Bool) (w : Word) → WW k w → Opened Write shelf window chunk WI WS WW k (unknown_hears (serving Write shelf window chunk time) room w)
  write_opens time k true (start r o) asks =
      (λ e. same_offset r o (asks e).0 (asks e).1, (λ e. ((asks e).0, same_offset r o (asks e).0 (asks e).1), (λ e. same_offset r o (asks e).0 (asks e).1, tt)))
  write_opens time k false (start r o) asks = (tt, (λ e. tt, tt))
  write_opens time k room (start_ack x) asks = (tt, (λ e. tt, tt))
  write_opens time k room (confirmation ask) asks = (tt, (λ e. tt, tt))
  write_opens time k room (parameters ask) asks = (tt, (λ e. tt, tt))
  write_opens time k room (data_comes p) asks = (tt, (λ e. tt, tt))
  write_opens time k room (completion status) asks = (tt, (λ e. tt, tt))
  write_opens time k room completion_ack asks = (tt, tt)

  write_keeps : Keeps Write shelf window chunk WI WS WW
  write_keeps = record {
    hears = λ time k s w is asks. write_done k _ (λ e. write_hears resource agreed shelf window chunk time s w (is e));
    opens = λ time k room w asks. write_opens time k room w asks;
    ticks = λ now k s is. write_done k _ (λ e. write_ticks resource agreed now s (is e));
    stops = λ k s is. write_done k _ (λ e. write_stops resource agreed s (is e));
  }

  no_start : (type : ChunkType) (c : Chunk) → (type ≡ Start → ⊥) → WordAsks (said_by type c)
  no_start Start c other = absurd (other refl)
  no_start Data c other = tt
  no_start ParametersRetransmit c other = tt
  no_start ParametersContinue c other = tt
  no_start Completion c other = tt
  no_start CompletionAck c other = tt
  no_start StartAck c other = tt
  no_start StartAckConfirmation c other = tt

  write_brings : (c : Chunk) → StartsOn id resource (λ o. o ≡ wanted) c → Brings Write shelf window chunk WI WS WW c
  write_brings c asks = record {
    told = λ e. tt;
    starts = λ k type desired e. asks type (desired ∙ ap Some e);
    names = λ k type other e session same. no_start type c other;
  }

pub writes_begin_as_asked : WritesBeginAsAsked
writes_begin_as_asked shelf window chunk id resource asked es asks =
    all_said Write shelf window chunk (WI shelf window chunk id resource asked) (WS shelf window chunk id resource asked) (WW shelf window chunk id resource asked)
    (write_keeps shelf window chunk id resource asked) es
    (all_chunks (StartsOn id resource (λ o. o ≡ asked)) _ (λ c. write_brings shelf window chunk id resource asked c) es asks)

-- A read of this resource, where that is sure; it may tell the end OK, or may not.
module _ (shelf : Shelf) (window chunk resource : ℕ) (sure may : Bool) where
  abbrev content : Option (List ℕ)
  content = first_of resource shelf.full

  -- where a session of Read stands so; none receives
  abbrev Reads : Stage → Type 0
  Reads (stage.Opening o) = sure ≡ true → o.resource ≡ resource
  Reads (stage.Sending s) = (s.ended ≡ None) × (sure ≡ true → content ≡ Some s.bytes)
  Reads (stage.Receiving r) = ⊥
  Reads (stage.Ended status) = status ≡ Okay → may ≡ true

  abbrev SaysIt : Saying → Type 0
  SaysIt (says (data_comes p)) = sure ≡ true → IsPieceOf content p
  SaysIt (says (completion status)) = status ≡ Okay → may ≡ true
  SaysIt _ = Unit {0}

  abbrev HearsIt : Word → Type 0
  HearsIt (start r o) = sure ≡ true → r ≡ resource
  HearsIt (completion status) = status ≡ Okay → may ≡ true
  HearsIt _ = Unit {0}

  abbrev ReadDone : Stepped Stage → Type 0
  ReadDone t = Reads t.after × AllByRecursion SaysIt t.sayings

  no_okay : (status : Status) → (status ≡ Okay → ⊥) → status ≡ Okay → may ≡ true
  no_okay status other is = absurd (other is)

  pieces_said : (bytes : List ℕ) (ps : List Piece) → (sure ≡ true → content ≡ Some bytes) → AllByRecursion (IsPartOf bytes) ps → AllByRecursion SaysIt (said_pieces ps)
  pieces_said bytes [] is parts = tt
  pieces_said bytes (p ∷ ps) is parts = (λ e. subst (λ o. IsPieceOf o p) (sym (is e)) parts.0, pieces_said bytes ps is parts.1)

  going_by : (s : Sender) (ps : List Piece) (o : Option Status) → s.ended ≡ o → o ≡ None → (sure ≡ true → content ≡ Some s.bytes) → AllByRecursion (IsPartOf s.bytes) ps
      → Reads (sending_or_ended s o) × AllByRecursion SaysIt (said_or_ended ps o)
  going_by s ps None e none is parts = ((e, is), pieces_said s.bytes ps is parts)
  going_by s ps (Some status) e none is parts = absurd cc

  answer_by : (s : Sender) (ask : Ask) (b : Bool) → s.ended ≡ None → (sure ≡ true → content ≡ Some s.bytes)
      → let a : Answer = if b then record { after = record s { ended = Some OutOfRange }; pieces = [] } else record { after = record s { position = end_of (start_of s ask) (pieces_for s ask) }; pieces = pieces_for s ask } in
      AllByRecursion (IsPartOf s.bytes) a.pieces → Reads (sending_or_ended a.after a.after.ended) × AllByRecursion SaysIt (of_answer a)
  answer_by s ask true none is parts = (λ e. absurd cc, (λ e. absurd cc, tt))
  answer_by s ask false none is parts = going_by (record s { position = end_of (start_of s ask) (pieces_for s ask) }) (pieces_for s ask) s.ended refl none is parts

  asked_said : (now : ℕ) (s : Sender) (ask : Ask) → s.ended ≡ None → (sure ≡ true → content ≡ Some s.bytes) → ReadDone (asked now s ask)
  asked_said now s ask none is =
      answer_by (touched s now) ask (is_past_end (touched s now) ask) none is
      (subst (AllByRecursion (IsPartOf s.bytes)) (append-nil (answer_to (touched s now) ask).pieces)
      (recursion_from_All (IsPartOf s.bytes) _ (sends_parts s (ask_comes ask now ∷ []))))

  sender_said : (now : ℕ) (s : Sender) (w : Word) → (s.ended ≡ None) × (sure ≡ true → content ≡ Some s.bytes) → HearsIt w → ReadDone (sender_hears now s w)
  sender_said now s (start x y) is word = (is, tt)
  sender_said now s (start_ack x) is word = (is, tt)
  sender_said now s (confirmation ask) is word = (is, tt)
  sender_said now s (parameters ask) is word = asked_said now s ask is.0 is.1
  sender_said now s (data_comes p) is word = (is, tt)
  sender_said now s (completion status) is word = (word, (tt, tt))
  sender_said now s completion_ack is word = (is, tt)

  reading_said : (now agreed r : ℕ) (ask : Ask) → (sure ≡ true → r ≡ resource) → (o : Option (List ℕ)) → first_of r shelf.full ≡ o → ReadDone (reading now agreed ask (offered o agreed))
  reading_said now agreed r ask is None e = (λ x. absurd cc, (λ x. absurd cc, tt))
  reading_said now agreed r ask is (Some bytes) e = by_size (nat_lt MAX_RESOURCE (length bytes) || nat_lt (length bytes) agreed)
    where
      by_size : (b : Bool) → ReadDone (reading now agreed ask (if b then Err OutOfRange else Ok bytes))
      by_size true = (λ x. absurd cc, (λ x. absurd cc, tt))
      by_size false = asked_said now (new_sender bytes agreed now) ask refl (λ x. subst (λ n. first_of n shelf.full ≡ Some bytes) (is x) e)

  again_said : (b : Bool) (x : ℕ) → AllByRecursion SaysIt (if b then says (start_ack x) ∷ [] else [])
  again_said true x = (tt, tt)
  again_said false x = tt

  read_hears : (time : ℕ) (s : Stage) (w : Word) → Reads s → HearsIt w → ReadDone (stage_hears (serving Read shelf window chunk time) s w)
  read_hears time (stage.Opening o) (start r x) is word = (is, again_said (o.resource == r) o.agreed)
  read_hears time (stage.Opening o) (start_ack x) is word = (is, tt)
  read_hears time (stage.Opening o) (confirmation ask) is word = reading_said time o.agreed o.resource ask is (first_of o.resource shelf.full) refl
  read_hears time (stage.Opening o) (parameters ask) is word = (is, tt)
  read_hears time (stage.Opening o) (data_comes p) is word = (is, tt)
  read_hears time (stage.Opening o) (completion status) is word = (word, (tt, tt))
  read_hears time (stage.Opening o) completion_ack is word = (is, tt)
  read_hears time (stage.Sending s) w is word = sender_said time s w is word
  read_hears time (stage.Receiving r) w is word = absurd is
  read_hears time (stage.Ended status) (start x y) is word = (is, (is, tt))
  read_hears time (stage.Ended status) (start_ack x) is word = (is, (is, tt))
  read_hears time (stage.Ended status) (confirmation ask) is word = (is, (is, tt))
  read_hears time (stage.Ended status) (parameters ask) is word = (is, (is, tt))
  read_hears time (stage.Ended status) (data_comes p) is word = (is, (is, tt))
  read_hears time (stage.Ended status) (completion told) is word = (is, (tt, tt))
  read_hears time (stage.Ended status) completion_ack is word = (is, tt)

  late_said : (now : ℕ) (o : Opening) (b : Bool) → (sure ≡ true → o.resource ≡ resource)
      → ReadDone (if b then record { after = stage.Ended DeadlineExceeded; sayings = says (completion DeadlineExceeded) ∷ [] } else record { after = stage.Opening (record o { active = now; timeouts = o.timeouts + 1 }); sayings = [] })
  late_said now o true is = (λ x. absurd cc, (λ x. absurd cc, tt))
  late_said now o false is = (is, tt)

  opening_said : (now : ℕ) (o : Opening) (b : Bool) → (sure ≡ true → o.resource ≡ resource) → ReadDone (if b then opening_timeout Read now o else record { after = stage.Opening o; sayings = [] })
  opening_said now o true is = late_said now o (o.timeouts + 1 == MAX_TIMEOUTS) is
  opening_said now o false is = (is, tt)

  timed_said : (now : ℕ) (s : Sender) (b : Bool) → (sure ≡ true → content ≡ Some s.bytes)
      → let e : Option Status = if b then Some DeadlineExceeded else None in
      let t : Sender = record s { active = now; timeouts = s.timeouts + 1; ended = e } in
      ReadDone (record { after = sending_or_ended t e; sayings = of_timeout e })
  timed_said now s true is = (λ x. absurd cc, (λ x. absurd cc, tt))
  timed_said now s false is = ((refl, is), tt)

  unticked_said : (s : Sender) (o : Option Status) → s.ended ≡ o → o ≡ None → (sure ≡ true → content ≡ Some s.bytes)
      → ReadDone (record { after = sending_or_ended s o; sayings = of_timeout o })
  unticked_said s None e none is = ((e, is), tt)
  unticked_said s (Some status) e none is = absurd cc

  ticked_said : (now : ℕ) (s : Sender) (b : Bool) → s.ended ≡ None → (sure ≡ true → content ≡ Some s.bytes)
      → let t : Sender = if b then record s { active = now; timeouts = s.timeouts + 1; ended = if s.timeouts + 1 == MAX_TIMEOUTS then Some DeadlineExceeded else None } else s in
      ReadDone (record { after = sending_or_ended t t.ended; sayings = of_timeout t.ended })
  ticked_said now s true none is = timed_said now s (s.timeouts + 1 == MAX_TIMEOUTS) is
  ticked_said now s false none is = unticked_said s s.ended refl none is

  read_ticks : (now : ℕ) (s : Stage) → Reads s → ReadDone (stage_ticks Read now s)
  read_ticks now (stage.Opening o) is = opening_said now o (nat_le (o.active + TIMEOUT) now) is
  read_ticks now (stage.Sending s) is = ticked_said now s (nat_le (s.active + TIMEOUT) now) is.0 is.1
  read_ticks now (stage.Receiving r) is = absurd is
  read_ticks now (stage.Ended status) is = (is, tt)

  read_stops : (s : Stage) → Reads s → ReadDone (stage_stops Read s)
  read_stops (stage.Opening o) is = (λ x. absurd cc, tt)
  read_stops (stage.Sending s) is = (λ x. absurd cc, tt)
  read_stops (stage.Receiving r) is = absurd is
  read_stops (stage.Ended status) is = (is, tt)

  opened_said : (time r x : ℕ) → (sure ≡ true → r ≡ resource) → (o : Option (List ℕ)) → ReadDone (opened_read time r x (offered o x))
  opened_said time r x is None = (λ e. absurd cc, (λ e. absurd cc, tt))
  opened_said time r x is (Some bytes) = by_size (nat_lt MAX_RESOURCE (length bytes) || nat_lt (length bytes) x)
    where
      by_size : (b : Bool) → ReadDone (opened_read time r x (if b then Err OutOfRange else Ok bytes))
      by_size true = (λ e. absurd cc, (λ e. absurd cc, tt))
      by_size false = (is, (tt, tt))

  -- In a session of this id.
  module _ (id : ℕ) where
    abbrev RI : ℕ → Stage → Type 0
    RI k s = k ≡ id → Reads s

    abbrev RS : ℕ → Saying → Type 0
    RS k x = k ≡ id → SaysIt x

    abbrev RW : ℕ → Word → Type 0
    RW k w = k ≡ id → HearsIt w

    read_done : (k : ℕ) (t : Stepped Stage) → (k ≡ id → ReadDone t) → Done Read shelf window chunk RI RS RW k t
    read_done k t done = (λ e. (done e).0, each_where (k ≡ id) SaysIt t.sayings (λ e. (done e).1))

    read_opens : (time k : ℕ) (room : Bool) (w : Word) → RW k w → Opened Read shelf window chunk RI RS RW k (unknown_hears (serving Read shelf window chunk time) room w)
    read_opens time k true (start r x) word =
        let done : k ≡ id → ReadDone (opened_read time r x (offered (first_of r shelf.full) x)) = λ e. opened_said time r x (word e) (first_of r shelf.full) in
        (λ e. (done e).0, each_where (k ≡ id) SaysIt _ (λ e. (done e).1))
    read_opens time k false (start r x) word = (tt, (λ e. λ f. absurd cc, tt))
    read_opens time k room (start_ack x) word = (tt, (λ e. λ f. absurd cc, tt))
    read_opens time k room (confirmation ask) word = (tt, (λ e. λ f. absurd cc, tt))
    read_opens time k room (parameters ask) word = (tt, (λ e. λ f. absurd cc, tt))
    read_opens time k room (data_comes p) word = (tt, (λ e. λ f. absurd cc, tt))
    read_opens time k room (completion status) word = (tt, (λ e. tt, tt))
    read_opens time k room completion_ack word = (tt, tt)

    read_keeps : Keeps Read shelf window chunk RI RS RW
    read_keeps = record {
      hears = λ time k s w is word. read_done k _ (λ e. read_hears time s w (is e) (word e));
      opens = λ time k room w word. read_opens time k room w word;
      ticks = λ now k s is. read_done k _ (λ e. read_ticks now s (is e));
      stops = λ k s is. read_done k _ (λ e. read_stops s (is e));
    }

    named : (type : ChunkType) (c : Chunk) → (type ≡ Start → ⊥) → type_of c ≡ Some type → c.session ≡ Some id → OkayIn id may c → HearsIt (said_by type c)
    named Start c other e session okay = absurd (other refl)
    named Data c other e session okay = tt
    named ParametersRetransmit c other e session okay = tt
    named ParametersContinue c other e session okay = tt
    named Completion c other e session okay = okay session _ (ap (option_map (λ t. said_by t c)) e)
    named CompletionAck c other e session okay = tt
    named StartAck c other e session okay = tt
    named StartAckConfirmation c other e session okay = tt

    read_brings : (c : Chunk) → (sure ≡ true → StartsOn id resource (λ o. Unit {0}) c) → OkayIn id may c → Brings Read shelf window chunk RI RS RW c
    read_brings c asks okay = record {
      told = λ e f. absurd cc;
      starts = λ k type desired e is. (asks is type (desired ∙ ap Some e)).0;
      names = λ k type other e session same. named type c other e (session ∙ ap Some same) okay;
    }

    read_said : (es : List Comes) → AllChunks (λ c. (sure ≡ true → StartsOn id resource (λ o. Unit {0}) c) × OkayIn id may c) es
        → AllByRecursion (λ o. o.session ≡ id → SaysIt o.saying) (outs_over (new_book Read shelf window chunk) es)
    read_said es all =
        all_said Read shelf window chunk RI RS RW read_keeps es
        (all_chunks (λ c. (sure ≡ true → StartsOn id resource (λ o. Unit {0}) c) × OkayIn id may c) _ (λ c both. read_brings c both.0 both.1) es all)

weaken : {A : Type 0} (P Q : A → Type 0) → ((x : A) → P x → Q x) → (xs : List A) → AllByRecursion P xs → AllByRecursion Q xs
weaken P Q f [] all = tt
weaken P Q f (x ∷ xs) all = (f x all.0, weaken P Q f xs all.1)

may_okay : (w : Word) → OkayWhere true w
may_okay (start r o) = tt
may_okay (start_ack o) = tt
may_okay (confirmation ask) = tt
may_okay (parameters ask) = tt
may_okay (data_comes p) = tt
may_okay (completion status) = λ is. refl
may_okay completion_ack = tt

pub reads_are_honest : ReadsAreHonest
reads_are_honest shelf window chunk id resource es asks =
    weaken (λ o. o.session ≡ id → SaysIt shelf window chunk resource true true o.saying) _ (λ o all e. honest o.saying (all e)) _
    (read_said shelf window chunk resource true true id es
    (all_chunks (StartsOn id resource (λ o. Unit {0})) _ (λ c a. (λ e. a, λ session w is. may_okay w)) es asks))
  where
    honest : (x : Saying) → SaysIt shelf window chunk resource true true x → SaysPiecesOf (first_of resource shelf.full) x
    honest (says (data_comes p)) is = is refl
    honest _ is = tt

pub reads_end_as_told : ReadsEndAsTold
reads_end_as_told shelf window chunk id may es told =
    weaken (λ o. o.session ≡ id → SaysIt shelf window chunk 0 false may o.saying) _ (λ o all e. ended o.saying (all e)) _
    (read_said shelf window chunk 0 false may id es
    (all_chunks (OkayIn id may) _ (λ c a. (λ e. absurd (false≢true e), a)) es told))
  where
    ended : (x : Saying) → SaysIt shelf window chunk 0 false may x → SaysOkayWhere may x
    ended (says (completion status)) is = is
    ended _ is = tt
