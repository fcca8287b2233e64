-- What the sessions of the service say fits chunks.
use Rattle.std.proofs.Common.{◌≡◌, ℕ, ◌+◌, ◌-◌, ◌<◌, ◌≤◌, ◌==◌, ◌||◌, ◌^◌, min, nat_lt, nat_le, Bool, true, false, if◌then◌else◌, List, [], ◌∷◌, ◌++◌, length, Option, Some, None, IfSome, Ok, Err, unwrap_or, refl, arith, subst}
use Rattle.std.specs.List.{AllByRecursion}
use Rattle.std.proofs.lemmas.Bool.Decides.{nat_tests}
use Rattle.std.proofs.lemmas.List.Elements.{recursion_from_All}
use Rattle.rpc_ids.specs.declared.Status.{Status}
use Rattle.rpc_ids.specs.declared.Status.TheVariants.{OutOfRange, DeadlineExceeded}
use Rattle.link_io.specs.declared.Shelf.{Shelf}
use Rattle.link_io.specs.Resources.{first_of}
use Rattle.transfer_base.specs.declared.Ask.{Ask}
use Rattle.transfer_base.specs.declared.Piece.{Piece}
use Rattle.transfer_base.specs.declared.limits.TheConstants.{MAX_CHUNK, MAX_RESOURCE, MAX_WINDOW, TIMEOUT}
use Rattle.transfer_base.specs.PieceLists.{end_of}
use Rattle.transfer_chunk.specs.Chunk.{Chunk}
use Rattle.transfer_sender.specs.declared.sender.TheConstants.{MAX_TIMEOUTS}
use Rattle.transfer_sender.specs.Sender.{Sender, new_sender, touched}
use Rattle.transfer_sender.specs.Cut.{pieces_of_window}
use Rattle.transfer_sender.specs.Answer.{Answer, answer_to, chunk_size, empty_last_piece, is_past_end, pieces_again, pieces_for, start_of}
use Rattle.transfer_sender.proofs.AnswerLemmas.{chunk_size-low}
use Rattle.transfer_sender.proofs.CutLaws.{cut_of_window}
use Rattle.transfer_receiver.specs.declared.phase.Phase.{Phase}
use Rattle.transfer_receiver.specs.declared.phase.Phase.TheVariants as phase
use Rattle.transfer_receiver.specs.declared.answers.Ticked.{Ticked}
use Rattle.transfer_receiver.specs.declared.answers.Ticked.TheVariants.{Quiet, Resend, ResendEnd, Over}
use Rattle.transfer_receiver.specs.Phase.{is_open}
use Rattle.transfer_receiver.specs.Receiver.{Receiver, new_receiver}
use Rattle.transfer_receiver.specs.TickRules.{tick_outcome}
use Rattle.transfer_words.specs.Word.{Word, start, start_ack, confirmation, parameters, data_comes, completion, completion_ack}
use Rattle.transfer_words.specs.Saying.{Saying, Stepped, says}
use Rattle.transfer_words.specs.CoreAnswers.{of_answer, of_timeout, said_or_ended, said_pieces}
use Rattle.transfer_resume.specs.declared.side.Side.{Side}
use Rattle.transfer_resume.specs.declared.side.Side.TheVariants.{Read, Write}
use Rattle.transfer_resume.specs.declared.stage.Opening.{Opening}
use Rattle.transfer_resume.specs.declared.stage.Stage.{Stage}
use Rattle.transfer_resume.specs.declared.stage.Stage.TheVariants as stage
use Rattle.transfer_resume.specs.Session.{Service}
use Rattle.transfer_resume.specs.Sender.{asked, sender_hears, sending_or_ended}
use Rattle.transfer_resume.specs.Receiver.{completed, acknowledged, receiver_hears, receiver_stops, receiving_or_over}
use Rattle.transfer_resume.specs.Opening.{agreed_offset, confirmed, leaving, offered, opened, opened_read, opening_timeout, reading}
use Rattle.transfer_resume.specs.Hears.{stage_hears, unknown_hears}
use Rattle.transfer_resume.specs.Ticks.{stage_ticks, stage_stops}
use Rattle.transfer_resume.specs.Book.{Outgoing}
use Rattle.transfer_resume.specs.Uploads.{Comes, chunk_comes, time_comes, call_ends}
use Rattle.transfer_laws.specs.words.Said.{FitsSaying}
use Rattle.transfer_laws.specs.words.Service.{FitsChunks, HasSmallIds, ServiceFits, AllChunks}
use Rattle.transfer_laws.proofs.words.Receivers.{AllFit, IsBounded, first_fits, new_bounded, piece_done, tick_done}
use Rattle.transfer_laws.proofs.words.Sessions.{Brings, Done, Keeps, Opened, all_join, all_said, serving}

-- A sender of a resource that isn't too large says pieces that fit.
record IsSmallPiece (p : Piece) : Type 0 where
  offset : p.offset < 2 ^ 64
  bytes : length p.bytes < 2 ^ 64

small_cut : (bytes : List ℕ) (chunk window_end position : ℕ) (ps : List Piece) → length bytes ≤ MAX_RESOURCE
    → AllByRecursion (λ p. length p.bytes ≡ min chunk (min (window_end - p.offset) (length bytes - p.offset))) ps → AllByRecursion (λ p. 0 < length p.bytes) ps
    → AllByRecursion IsSmallPiece ps
small_cut bytes chunk window_end position [] size sizes some = tt
small_cut bytes chunk window_end position (p ∷ ps) size sizes some = (
  record { offset = omega (arith, size, sizes.0, some.0); bytes = omega (arith, size, sizes.0, some.0) },
  small_cut bytes chunk window_end position ps size sizes.1 some.1,
)

small_window : (s : Sender) (ask : Ask) (position : ℕ) → length s.bytes ≤ MAX_RESOURCE
    → AllByRecursion IsSmallPiece (pieces_of_window s.bytes (chunk_size ask.max_chunk) ask.window_end position)
small_window s ask position size =
    let cut = cut_of_window s.bytes (chunk_size ask.max_chunk) ask.window_end position (chunk_size-low ask.max_chunk) in
    small_cut s.bytes (chunk_size ask.max_chunk) ask.window_end position _ size (recursion_from_All _ _ cut.sizes) (recursion_from_All _ _ cut.not_empty)

small_empty : (bytes : List ℕ) → length bytes ≤ MAX_RESOURCE → IsSmallPiece (empty_last_piece bytes)
small_empty bytes size = record { offset = omega (arith, size); bytes = omega arith }

small_again : (s : Sender) (ask : Ask) (b : Bool) → length s.bytes ≤ MAX_RESOURCE
    → AllByRecursion IsSmallPiece (if b then empty_last_piece s.bytes ∷ [] else pieces_of_window s.bytes (chunk_size ask.max_chunk) ask.window_end ask.offset)
small_again s ask true size = (small_empty s.bytes size, tt)
small_again s ask false size = small_window s ask ask.offset size

small_for : (s : Sender) (ask : Ask) (b : Bool) → length s.bytes ≤ MAX_RESOURCE
    → AllByRecursion IsSmallPiece (if b then pieces_again s.bytes ask else pieces_of_window s.bytes (chunk_size ask.max_chunk) ask.window_end s.position)
small_for s ask true size = small_again s ask (ask.offset == length s.bytes) size
small_for s ask false size = small_window s ask s.position size

said_small : (ps : List Piece) → AllByRecursion IsSmallPiece ps → AllFit (said_pieces ps)
said_small [] all = tt
said_small (p ∷ ps) all = ((all.0.offset, all.0.bytes), said_small ps all.1)

said_by_end : (ps : List Piece) (o : Option Status) → AllByRecursion IsSmallPiece ps → AllFit (said_or_ended ps o)
said_by_end ps None all = said_small ps all
said_by_end ps (Some status) all = (tt, tt)

answer_fits_by : (s : Sender) (ask : Ask) (b : Bool) → length s.bytes ≤ MAX_RESOURCE
    → let a : Answer = if b then record { after = record s { ended = Some OutOfRange }; pieces = [] } else record { after = record s { position = end_of (start_of s ask) (pieces_for s ask) }; pieces = pieces_for s ask } in
    (length a.after.bytes ≤ MAX_RESOURCE) × AllFit (of_answer a)
answer_fits_by s ask true size = (size, (tt, tt))
answer_fits_by s ask false size = (size, said_by_end (pieces_for s ask) s.ended (small_for s ask ask.again size))

-- a sender that answers keeps its resource, and what it says fits
pub answer_fits : (s : Sender) (ask : Ask) → length s.bytes ≤ MAX_RESOURCE → (length (answer_to s ask).after.bytes ≤ MAX_RESOURCE) × AllFit (of_answer (answer_to s ask))
answer_fits s ask size = answer_fits_by s ask (is_past_end s ask) size

-- Where a session stands so.
abbrev pub StageFits : Stage → Type 0
StageFits (stage.Opening o) = o.agreed ≤ MAX_RESOURCE
StageFits (stage.Sending s) = length s.bytes ≤ MAX_RESOURCE
StageFits (stage.Receiving r) = IsBounded r
StageFits (stage.Ended status) = Unit {0}

abbrev pub StageDone : Stepped Stage → Type 0
StageDone t = StageFits t.after × AllFit t.sayings

sending_by : (s : Sender) (o : Option Status) → length s.bytes ≤ MAX_RESOURCE → StageFits (sending_or_ended s o)
sending_by s None size = size
sending_by s (Some status) size = tt

asked_done : (now : ℕ) (s : Sender) (ask : Ask) → length s.bytes ≤ MAX_RESOURCE → StageDone (asked now s ask)
asked_done now s ask size =
    let a : Answer = answer_to (touched s now) ask in
    let fits = answer_fits (touched s now) ask size in
    (sending_by a.after a.after.ended fits.0, fits.1)

sender_done : (now : ℕ) (s : Sender) (w : Word) → length s.bytes ≤ MAX_RESOURCE → StageDone (sender_hears now s w)
sender_done now s (start resource offset) size = (size, tt)
sender_done now s (start_ack offset) size = (size, tt)
sender_done now s (confirmation ask) size = (size, tt)
sender_done now s (parameters ask) size = asked_done now s ask size
sender_done now s (data_comes p) size = (size, tt)
sender_done now s (completion status) size = (tt, (tt, tt))
sender_done now s completion_ack size = (size, tt)

receiver_done : (now : ℕ) (r : Receiver) (w : Word) → IsBounded r → StageDone (receiver_hears now r w)
receiver_done now r (start resource offset) is = (is, tt)
receiver_done now r (start_ack offset) is = (is, tt)
receiver_done now r (confirmation ask) is = (is, tt)
receiver_done now r (parameters ask) is = (is, tt)
receiver_done now r (data_comes p) is = piece_done p.bytes r p.offset (length p.bytes) now p.last is
receiver_done now r (completion told) is = by_phase r.phase
  where
    by_phase : (p : Phase) → StageDone (completed r p told)
    by_phase phase.Receiving = (tt, (tt, (tt, tt)))
    by_phase phase.Recovering = (tt, (tt, (tt, tt)))
    by_phase (phase.Completing status) = (is, (tt, tt))
    by_phase phase.Ended = (tt, (tt, (tt, tt)))
receiver_done now r completion_ack is = by_phase r.phase
  where
    by_phase : (p : Phase) → StageDone (acknowledged r p)
    by_phase phase.Receiving = (is, tt)
    by_phase phase.Recovering = (is, tt)
    by_phase (phase.Completing status) = (tt, tt)
    by_phase phase.Ended = (is, tt)

leaves_fit : (side : Side) → AllFit (leaving side)
leaves_fit Read = tt
leaves_fit Write = (tt, tt)

again_fits : (b : Bool) (offset : ℕ) → offset ≤ MAX_RESOURCE → AllFit (if b then says (start_ack offset) ∷ [] else [])
again_fits true offset within = (omega (arith, within), tt)
again_fits false offset within = tt

module _ (side : Side) (shelf : Shelf) (window chunk : ℕ) (w_high : window ≤ MAX_WINDOW) (c_high : chunk ≤ MAX_CHUNK) where
  k : ℕ → Service
  k time = serving side shelf window chunk time

  reading_done : (now agreed : ℕ) (ask : Ask) (o : Option (List ℕ)) → StageDone (reading now agreed ask (offered o agreed))
  reading_done now agreed ask None = (tt, (tt, tt))
  reading_done now agreed ask (Some bytes) = by_size (nat_lt MAX_RESOURCE (length bytes)) refl (nat_lt (length bytes) agreed)
    where
      not_past : (n : ℕ) → nat_lt MAX_RESOURCE n ≡ false → n ≤ MAX_RESOURCE
      not_past n e = grind (arith, nat_tests)

      by_size : (b : Bool) → nat_lt MAX_RESOURCE (length bytes) ≡ b → (c : Bool) → StageDone (reading now agreed ask (if b || c then Err OutOfRange else Ok bytes))
      by_size true e c = (tt, (tt, tt))
      by_size false e true = (tt, (tt, tt))
      by_size false e false = asked_done now (new_sender bytes agreed now) ask (not_past (length bytes) e)

  confirmed_done : (x : Side) (time : ℕ) (o : Opening) (ask : Ask) → o.agreed ≤ MAX_RESOURCE → StageDone (confirmed x (serving side shelf window chunk time) o ask)
  confirmed_done Read time o ask within = reading_done time o.agreed ask (first_of o.resource shelf.full)
  confirmed_done Write time o ask within =
      let bounded = new_bounded o.agreed window chunk time within w_high c_high in (bounded, (first_fits (new_receiver o.agreed window chunk time) bounded, tt))

  pub stage_done : (time : ℕ) (s : Stage) (w : Word) → StageFits s → StageDone (stage_hears (serving side shelf window chunk time) s w)
  stage_done time (stage.Opening o) (start resource offset) fits = (fits, again_fits (o.resource == resource) o.agreed fits)
  stage_done time (stage.Opening o) (start_ack offset) fits = (fits, tt)
  stage_done time (stage.Opening o) (confirmation ask) fits = confirmed_done side time o ask fits
  stage_done time (stage.Opening o) (parameters ask) fits = (fits, tt)
  stage_done time (stage.Opening o) (data_comes p) fits = (fits, tt)
  stage_done time (stage.Opening o) (completion status) fits = (tt, all_join FitsSaying (leaving side) (says completion_ack ∷ []) (leaves_fit side) (tt, tt))
  stage_done time (stage.Opening o) completion_ack fits = (fits, tt)
  stage_done time (stage.Sending s) w fits = sender_done time s w fits
  stage_done time (stage.Receiving r) w fits = receiver_done time r w fits
  stage_done time (stage.Ended status) (start resource offset) fits = (tt, (tt, tt))
  stage_done time (stage.Ended status) (start_ack offset) fits = (tt, (tt, tt))
  stage_done time (stage.Ended status) (confirmation ask) fits = (tt, (tt, tt))
  stage_done time (stage.Ended status) (parameters ask) fits = (tt, (tt, tt))
  stage_done time (stage.Ended status) (data_comes p) fits = (tt, (tt, tt))
  stage_done time (stage.Ended status) (completion told) fits = (tt, (tt, tt))
  stage_done time (stage.Ended status) completion_ack fits = (tt, tt)

  opened_read_done : (now resource offset : ℕ) (o : Option (List ℕ)) → StageDone (opened_read now resource offset (offered o offset))
  opened_read_done now resource offset None = (tt, (tt, tt))
  opened_read_done now resource offset (Some bytes) = by_size (nat_lt MAX_RESOURCE (length bytes)) refl (nat_lt (length bytes) offset) refl
    where
      small : (n : ℕ) → nat_lt MAX_RESOURCE n ≡ false → nat_lt n offset ≡ false → offset ≤ MAX_RESOURCE
      small n e f = grind (arith, nat_tests)

      by_size : (b : Bool) → nat_lt MAX_RESOURCE (length bytes) ≡ b → (c : Bool) → nat_lt (length bytes) offset ≡ c
          → StageDone (opened_read now resource offset (if b || c then Err OutOfRange else Ok bytes))
      by_size true e c f = (tt, (tt, tt))
      by_size false e true f = (tt, (tt, tt))
      by_size false e false f = let within = small (length bytes) e f in (within, (omega (arith, within), tt))

  pub opened_done : (x : Side) (time resource offset : ℕ) → StageDone (opened x (serving side shelf window chunk time) resource offset)
  opened_done Read time resource offset = opened_read_done time resource offset (first_of resource shelf.full)
  opened_done Write time resource offset =
      let a : ℕ = agreed_offset shelf resource offset in let within : a ≤ MAX_RESOURCE = omega arith in (within, (tt, (omega (arith, within), tt)))

  late_by : (now : ℕ) (o : Opening) (b : Bool) → o.agreed ≤ MAX_RESOURCE
      → StageDone (if b then record { after = stage.Ended DeadlineExceeded; sayings = leaving side ++ says (completion DeadlineExceeded) ∷ [] } else record { after = stage.Opening (record o { active = now; timeouts = o.timeouts + 1 }); sayings = [] })
  late_by now o true within = (tt, all_join FitsSaying (leaving side) (says (completion DeadlineExceeded) ∷ []) (leaves_fit side) (tt, tt))
  late_by now o false within = (within, tt)

  opening_by : (now : ℕ) (o : Opening) (b : Bool) → o.agreed ≤ MAX_RESOURCE
      → StageDone (if b then opening_timeout side now o else record { after = stage.Opening o; sayings = [] })
  opening_by now o true within = late_by now o (o.timeouts + 1 == MAX_TIMEOUTS) within
  opening_by now o false within = (within, tt)

  ticked_by : (now : ℕ) (s : Sender) (b : Bool) → length s.bytes ≤ MAX_RESOURCE
      → let t : Sender = if b then record s { active = now; timeouts = s.timeouts + 1; ended = if s.timeouts + 1 == MAX_TIMEOUTS then Some DeadlineExceeded else None } else s in
      StageDone (record { after = sending_or_ended t t.ended; sayings = of_timeout t.ended })
  ticked_by now s true size = (sending_by _ (if s.timeouts + 1 == MAX_TIMEOUTS then Some DeadlineExceeded else None) size, told (if s.timeouts + 1 == MAX_TIMEOUTS then Some DeadlineExceeded else None))
    where
      told : (o : Option Status) → AllFit (of_timeout o)
      told None = tt
      told (Some status) = (tt, tt)
  ticked_by now s false size = (sending_by s s.ended size, told s.ended)
    where
      told : (o : Option Status) → AllFit (of_timeout o)
      told None = tt
      told (Some status) = (tt, tt)

  over_fits : (r : Receiver) (t : Ticked) → IsBounded r → StageFits (receiving_or_over r t)
  over_fits r Quiet is = is
  over_fits r (Resend ask) is = is
  over_fits r (ResendEnd status) is = is
  over_fits r (Over status) is = tt

  receiver_ticked : (now : ℕ) (r : Receiver) → IsBounded r → StageDone (stage_ticks side now (stage.Receiving r))
  receiver_ticked now r is =
      let done = tick_done (is_open r.phase) r now is in (over_fits (tick_outcome r now).after (tick_outcome r now).answer done.0, done.1)

  pub ticks_done : (now : ℕ) (s : Stage) → StageFits s → StageDone (stage_ticks side now s)
  ticks_done now (stage.Opening o) fits = opening_by now o (nat_le (o.active + TIMEOUT) now) fits
  ticks_done now (stage.Sending s) fits = ticked_by now s (nat_le (s.active + TIMEOUT) now) fits
  ticks_done now (stage.Receiving r) fits = receiver_ticked now r fits
  ticks_done now (stage.Ended status) fits = (tt, tt)

  stops_by : (p : Phase) → StageDone (receiver_stops p)
  stops_by phase.Receiving = (tt, (tt, tt))
  stops_by phase.Recovering = (tt, (tt, tt))
  stops_by (phase.Completing status) = (tt, tt)
  stops_by phase.Ended = (tt, (tt, tt))

  stops_done : (s : Stage) → StageFits s → StageDone (stage_stops side s)
  stops_done (stage.Opening o) fits = (tt, leaves_fit side)
  stops_done (stage.Sending s) fits = (tt, tt)
  stops_done (stage.Receiving r) fits = stops_by r.phase
  stops_done (stage.Ended status) fits = (tt, tt)

  -- The same in a session with a small id.
  abbrev I : ℕ → Stage → Type 0
  I id s = (id < 2 ^ 32) × StageFits s

  abbrev S : ℕ → Saying → Type 0
  S id x = (id < 2 ^ 32) × FitsSaying x

  abbrev W : ℕ → Word → Type 0
  W id w = id < 2 ^ 32

  each : (id : ℕ) → id < 2 ^ 32 → (ss : List Saying) → AllFit ss → AllByRecursion (S id) ss
  each id small [] all = tt
  each id small (s ∷ ss) all = ((small, all.0), each id small ss all.1)

  done_in : (id : ℕ) (t : Stepped Stage) → id < 2 ^ 32 → StageDone t → Done side shelf window chunk I S W id t
  done_in id t small done = ((small, done.0), each id small t.sayings done.1)

  opens_done : (time id : ℕ) (room : Bool) (w : Word) → id < 2 ^ 32 → Opened side shelf window chunk I S W id (unknown_hears (serving side shelf window chunk time) room w)
  opens_done time id true (start resource offset) small =
      let done = opened_done side time resource offset in
      let t : Stepped Stage = opened side (serving side shelf window chunk time) resource offset in ((small, done.0), each id small t.sayings done.1)
  opens_done time id false (start resource offset) small = (tt, ((small, tt), tt))
  opens_done time id room (start_ack offset) small = (tt, ((small, tt), tt))
  opens_done time id room (confirmation ask) small = (tt, ((small, tt), tt))
  opens_done time id room (parameters ask) small = (tt, ((small, tt), tt))
  opens_done time id room (data_comes p) small = (tt, ((small, tt), tt))
  opens_done time id room (completion status) small = (tt, ((small, tt), tt))
  opens_done time id room completion_ack small = (tt, tt)

  keeps : Keeps side shelf window chunk I S W
  keeps = record {
    hears = λ time id s w is small. done_in id _ small (stage_done time s w is.1);
    opens = λ time id room w small. opens_done time id room w small;
    ticks = λ now id s is. done_in id _ is.0 (ticks_done now s is.1);
    stops = λ id s is. done_in id _ is.0 (stops_done s is.1);
  }

  -- the ids in a chunk
  some_small : (o : Option ℕ) (id : ℕ) → IfSome o (λ s. s < 2 ^ 32) → o ≡ Some id → id < 2 ^ 32
  some_small None id small is = absurd cc
  some_small (Some x) id small is = let same : x ≡ id = cc in subst (λ n. n < 2 ^ 32) same small

  or_small : (o : Option ℕ) (other : ℕ) → IfSome o (λ s. s < 2 ^ 32) → other < 2 ^ 32 → unwrap_or o other < 2 ^ 32
  or_small None other small less = less
  or_small (Some x) other small less = small

  brings : (c : Chunk) → HasSmallIds c → Brings side shelf window chunk I S W c
  brings c ids = record {
    told = (or_small c.desired (unwrap_or c.session c.transfer_id) ids.desired (or_small c.session c.transfer_id ids.session ids.transfer_id), tt);
    starts = λ id type desired. some_small c.desired id ids.desired desired;
    names = λ id type other e session. some_small c.session id ids.session session;
  }

  all_bring : (es : List Comes) → AllChunks HasSmallIds es → AllChunks (Brings side shelf window chunk I S W) es
  all_bring [] all = tt
  all_bring (chunk_comes c ∷ es) all = (brings c all.0, all_bring es all.1)
  all_bring (time_comes now ∷ es) all = (tt, all_bring es all.1)
  all_bring (call_ends ∷ es) all = (tt, all_bring es all.1)

pub service_fits : ServiceFits
service_fits side shelf window chunk es w_high c_high small =
    as_records _ (all_said side shelf window chunk (I side shelf window chunk w_high c_high) (S side shelf window chunk w_high c_high) (W side shelf window chunk w_high c_high) (keeps side shelf window chunk w_high c_high) es (all_bring side shelf window chunk w_high c_high es small))
  where
    as_records : (outs : List Outgoing) → AllByRecursion (λ o. (o.session < 2 ^ 32) × FitsSaying o.saying) outs → AllByRecursion FitsChunks outs
    as_records [] all = tt
    as_records (o ∷ outs) all = (record { session = all.0.0; saying = all.0.1 }, as_records outs all.1)
