-- How many bytes the work of a task has at most, behind a poll.
use Rattle.std.proofs.Common.{◌≡◌, ℕ, ◌+◌, ◌≤◌, ◌==◌, ◌&&◌, not, nat_lt, nat_le, Bool, true, false, if◌then◌else◌, List, [], ◌∷◌, ◌++◌, length, Option, Some, None, refl, sym, ap, ◌∙◌, subst, arith}
use Rattle.std.proofs.lemmas.Bool.Decides.{nat_tests}
use Rattle.rpc_ids.specs.declared.Status.{Status}
use Rattle.rpc_ids.specs.declared.Status.TheVariants.{Okay, Internal, OutOfRange, DeadlineExceeded}
use Rattle.task_core.specs.declared.mail.Mail.{Mail}
use Rattle.task_core.specs.declared.mail.Mail.TheVariants.{Text, Closed}
use Rattle.transfer_base.specs.declared.Ask.{Ask}
use Rattle.transfer_base.specs.declared.Piece.{Piece}
use Rattle.transfer_base.specs.declared.limits.TheConstants.{MAX_RESOURCE, TIMEOUT}
use Rattle.transfer_receiver.specs.declared.receiver.TheConstants.{MAX_RESENDS}
use Rattle.transfer_receiver.specs.declared.answers.Received.TheVariants.{Kept, Again}
use Rattle.transfer_receiver.specs.declared.answers.Ticked.{Ticked}
use Rattle.transfer_receiver.specs.declared.answers.Ticked.TheVariants.{Quiet, Resend, ResendEnd, Over}
use Rattle.transfer_receiver.specs.declared.phase.Phase.{Phase}
use Rattle.transfer_receiver.specs.declared.phase.Phase.TheVariants as phase
use Rattle.transfer_receiver.specs.Phase.{is_open, is_recovering}
use Rattle.transfer_receiver.specs.Answers.{is_okay}
use Rattle.transfer_receiver.specs.Receiver.{Receiver, ask_of, asking, new_receiver}
use Rattle.transfer_receiver.specs.PieceRules.{PieceOutcome, active_at, asking_again, ending, going_on, ignoring, is_half_used, keeping, open_outcome, taking}
use Rattle.transfer_receiver.specs.Run.{outcome_of}
use Rattle.transfer_receiver.specs.TickRules.{TickOutcome, resending_ask, resending_end, tick_outcome, timeout_outcome}
use Rattle.transfer_receiver.specs.TickRules as tick_rules
use Rattle.transfer_sender.specs.Answer.{answer_to}
use Rattle.transfer_sender.specs.Sender.{Sender, new_sender, ticked, touched}
use Rattle.transfer_words.specs.Word.{Word, start, start_ack, confirmation, parameters, data_comes, completion, completion_ack}
use Rattle.transfer_words.specs.Saying.{Saying, Stepped, says, appends, commits, leaves}
use Rattle.transfer_words.specs.CoreAnswers.{end_work, of_piece, of_tick, of_timeout, said_or_ended, said_pieces}
use Rattle.transfer_client.specs.declared.stages.Wait.{Wait}
use Rattle.transfer_client.specs.declared.stages.Reading.{Reading}
use Rattle.transfer_client.specs.declared.stages.Reading.TheVariants as reading
use Rattle.transfer_client.specs.declared.stages.Writing.{Writing}
use Rattle.transfer_client.specs.declared.stages.Writing.TheVariants as writing
use Rattle.transfer_client.specs.Read as read
use Rattle.transfer_client.specs.Read.{Download, read_rules}
use Rattle.transfer_client.specs.Wait as waiting
use Rattle.transfer_client.specs.Write as write
use Rattle.transfer_client.specs.Write.{Upload, write_rules}
use Rattle.transfer_laws.specs.words.Tasks.{WordsIn}
use Rattle.transfer_laws.proofs.words.Polls.{KeepsSteps, poll_keeps}
use Rattle.link_laws.specs.world.World.{Transfer, reads, writes}
use Rattle.link_laws.specs.world.Client.{transfer_polled}
use Rattle.link_laws.proofs.okay_means_bytes.Speaks.{sayings_of}
use Rattle.link_laws.proofs.transfers_fit.Stores.{grown, grown_append}

-- nothing is known of the words
any_words : (session : ℕ) (mail : List Mail) → WordsIn session (λ w. Unit {0}) mail
any_words session [] = tt
any_words session (Text text ∷ mail) = (λ w e. tt, any_words session mail)
any_words session (Closed status ∷ mail) = any_words session mail

-- Where a read stands, whose work has at most m bytes.
abbrev pub StageFits : Reading → ℕ → Type 0
StageFits reading.Unasked m = m ≡ 0
StageFits (reading.Asking w) m = m ≡ 0
StageFits (reading.Receiving r) m = (m ≤ r.next) × (r.next ≤ MAX_RESOURCE)
StageFits (reading.Over status) m = m ≤ MAX_RESOURCE

abbrev pub ReadFits : Download → ℕ → Type 0
ReadFits d m = (d.asked ≤ MAX_RESOURCE) × StageFits d.stage m

-- a step that leads to here
abbrev Steps : Stepped Download → ℕ → Type 0
Steps t m = ReadFits t.after (grown m t.sayings)

stage_small : (stage : Reading) (m : ℕ) → StageFits stage m → m ≤ MAX_RESOURCE
stage_small reading.Unasked m is = omega (arith, is)
stage_small (reading.Asking w) m is = omega (arith, is)
stage_small (reading.Receiving r) m is = omega (arith, is.0, is.1)
stage_small (reading.Over status) m is = is

-- A piece.
module _ (m : ℕ) (bytes : List ℕ) where
  abbrev PieceDone : PieceOutcome → Type 0
  PieceDone t = (grown m (of_piece bytes t.answer) ≤ t.after.next) × (t.after.next ≤ MAX_RESOURCE)

  end_grows : (status : Status) (ok empty : Bool) → grown m ((if ok then (if empty then [] else appends bytes ∷ []) ++ commits ∷ [] else leaves ∷ []) ++ says (completion status) ∷ []) ≤ m + length bytes
  end_grows status true true = omega arith
  end_grows status true false = omega arith
  end_grows status false empty = omega arith

  failed_grows : (status : Status) → is_okay status ≡ false → grown m (end_work status bytes ++ says (completion status) ∷ []) ≡ m
  failed_grows status is = ap (λ b. grown m ((if b then (if length bytes == 0 then [] else appends bytes ∷ []) ++ commits ∷ [] else leaves ∷ []) ++ says (completion status) ∷ [])) is

  again_by : (r : Receiver) (b : Bool) → m ≤ r.next → r.next ≤ MAX_RESOURCE
      → PieceDone (if b then ignoring r else record { after = record (asking true r) { phase = phase.Recovering }; answer = Again (ask_of true (asking true r)) })
  again_by r true low high = (low, high)
  again_by r false low high = (low, high)

  going_by : (r : Receiver) (b : Bool) → m + length bytes ≤ r.next → r.next ≤ MAX_RESOURCE
      → PieceDone (if b then record { after = asking false r; answer = Kept (Some (ask_of false (asking false r))) } else record { after = r; answer = Kept None })
  going_by r true low high = (low, high)
  going_by r false low high = (low, high)

  last_by : (r : Receiver) (end : ℕ) (last : Bool) → m + length bytes ≤ end → end ≤ MAX_RESOURCE → PieceDone (if last then ending (keeping r end) Okay else going_on (keeping r end))
  last_by r end true low high = (omega (arith, low, end_grows Okay true (length bytes == 0)), high)
  last_by r end false low high = going_by (keeping r end) (is_half_used (keeping r end)) low high

  not_past : (n : ℕ) → nat_lt MAX_RESOURCE n ≡ false → n ≤ MAX_RESOURCE
  not_past n e = grind (arith, nat_tests)

  range_by : (r : Receiver) (end : ℕ) (b last : Bool) → nat_lt MAX_RESOURCE end ≡ b → m ≤ r.next → r.next ≤ MAX_RESOURCE → m + length bytes ≤ end
      → PieceDone (if b then ending r OutOfRange else if last then ending (keeping r end) Okay else going_on (keeping r end))
  range_by r end true last e low high long = (low, high)
  range_by r end false last e low high long = last_by r end last long (not_past end e)

  window_by : (r : Receiver) (end : ℕ) (b last : Bool) → m ≤ r.next → r.next ≤ MAX_RESOURCE → m + length bytes ≤ end
      → PieceDone (if b then ending r Internal else if nat_lt MAX_RESOURCE end then ending r OutOfRange else if last then ending (keeping r end) Okay else going_on (keeping r end))
  window_by r end true last low high long = (low, high)
  window_by r end false last low high long = range_by r end (nat_lt MAX_RESOURCE end) last refl low high long

  past_by : (r : Receiver) (end : ℕ) (b last : Bool) → m ≤ r.next → r.next ≤ MAX_RESOURCE → m + length bytes ≤ end → PieceDone (if b then asking_again r else taking r end last)
  past_by r end true last low high long = again_by r (is_recovering r.phase) low high
  past_by r end false last low high long = window_by r end (nat_lt r.window_end end) last low high long

  empty_by : (r : Receiver) (offset : ℕ) (b last : Bool) → m ≤ r.next → r.next ≤ MAX_RESOURCE → r.next ≤ offset
      → PieceDone (if b then ignoring r else if nat_lt r.next offset then asking_again r else taking r (offset + length bytes) last)
  empty_by r offset true last low high behind = (low, high)
  empty_by r offset false last low high behind = past_by r (offset + length bytes) (nat_lt r.next offset) last low high (omega (arith, low, behind))

  not_before : (x n : ℕ) → nat_lt x n ≡ false → n ≤ x
  not_before x n e = grind (arith, nat_tests)

  before_by : (r : Receiver) (offset : ℕ) (b last : Bool) → nat_lt offset r.next ≡ b → m ≤ r.next → r.next ≤ MAX_RESOURCE
      → PieceDone (if b then ignoring r else if (length bytes == 0) && not last then ignoring r else if nat_lt r.next offset then asking_again r else taking r (offset + length bytes) last)
  before_by r offset true last e low high = (low, high)
  before_by r offset false last e low high = empty_by r offset ((length bytes == 0) && not last) last low high (not_before offset r.next e)

  open_by : (r : Receiver) (offset : ℕ) (b last : Bool) → m ≤ r.next → r.next ≤ MAX_RESOURCE → PieceDone (if b then open_outcome r offset (length bytes) last else ignoring r)
  open_by r offset true last low high = before_by r offset (nat_lt offset r.next) last refl low high
  open_by r offset false last low high = (low, high)

piece_fits : (r : Receiver) (p : Piece) (now m : ℕ) → m ≤ r.next → r.next ≤ MAX_RESOURCE → PieceDone m p.bytes (outcome_of r p now)
piece_fits r p now m low high = open_by m p.bytes (active_at now r) p.offset (is_open r.phase) p.last low high

-- A tick.
tick_grows : (m : ℕ) (going : Bool) (t : Ticked) → grown m (of_tick going t) ≡ m
tick_grows m going Quiet = refl
tick_grows m going (Resend ask) = refl
tick_grows m going (ResendEnd status) = refl
tick_grows m true (Over status) = refl
tick_grows m false (Over status) = refl

asks_next : (r : Receiver) (b : Bool) → (if b then record { after = record (asking true r) { resends = r.resends + 1 }; answer = Resend (ask_of true (asking true r)) } else tick_rules.giving_up r DeadlineExceeded).after.next ≡ r.next
asks_next r true = refl
asks_next r false = refl

end_next : (r : Receiver) (status : Status) (b : Bool) → (if b then record { after = record r { resends = r.resends + 1 }; answer = ResendEnd status } else tick_rules.giving_up r status).after.next ≡ r.next
end_next r status true = refl
end_next r status false = refl

timed_next : (r : Receiver) (p : Phase) → (timeout_outcome r p).after.next ≡ r.next
timed_next r phase.Receiving = asks_next r (nat_lt r.resends MAX_RESENDS)
timed_next r phase.Recovering = asks_next r (nat_lt r.resends MAX_RESENDS)
timed_next r (phase.Completing status) = end_next r status (nat_lt r.resends MAX_RESENDS)
timed_next r phase.Ended = refl

tick_next : (r : Receiver) (now : ℕ) → (tick_outcome r now).after.next ≡ r.next
tick_next r now = at (nat_le (r.active + TIMEOUT) now)
  where
    at : (b : Bool) → (if b then timeout_outcome (active_at now r) r.phase else tick_rules.staying r).after.next ≡ r.next
    at true = timed_next (active_at now r) r.phase
    at false = refl

over_fits : (r : Receiver) (t : Ticked) (m : ℕ) → m ≤ r.next → r.next ≤ MAX_RESOURCE → StageFits (read.receiving_or_over r t) m
over_fits r Quiet m low high = (low, high)
over_fits r (Resend ask) m low high = (low, high)
over_fits r (ResendEnd status) m low high = (low, high)
over_fits r (Over status) m low high = omega (arith, low, high)

-- The steps of a read.
opens_fit : (d : Download) (stage : Reading) (now m : ℕ) → d.stage ≡ stage → ReadFits d m → Steps (read.opens_at d stage now) m
opens_fit d reading.Unasked now m e fits = (fits.0, subst (λ s. StageFits s m) e fits.1)
opens_fit d (reading.Asking w) now m e fits = fits
opens_fit d (reading.Receiving r) now m e fits = fits
opens_fit d (reading.Over status) now m e fits = fits

agrees_fit : (d : Download) (agreed now m : ℕ) (b : Bool) → nat_lt d.asked agreed ≡ b → d.asked ≤ MAX_RESOURCE → m ≡ 0
    → Steps (if b then record { after = read.at_stage d (reading.Over OutOfRange); sayings = says (completion OutOfRange) ∷ [] } else read.receives d agreed (new_receiver agreed d.window d.chunk now)) m
agrees_fit d agreed now m true e high none = (high, omega (arith, none))
agrees_fit d agreed now m false e high none = (high, (omega (arith, none), within d.asked e high))
  where
    within : (asked : ℕ) → nat_lt asked agreed ≡ false → asked ≤ MAX_RESOURCE → agreed ≤ MAX_RESOURCE
    within asked e high = grind (arith, nat_tests)

asking_fits : (d : Download) (w : Wait) (x : Word) (now m : ℕ) → d.asked ≤ MAX_RESOURCE → m ≡ 0 → Steps (read.asking_hears d w x now) m
asking_fits d w (start_ack agreed) now m high none = agrees_fit d agreed now m (nat_lt d.asked agreed) refl high none
asking_fits d w (completion status) now m high none = (high, omega (arith, none))
asking_fits d w (start r o) now m high none = (high, none)
asking_fits d w (confirmation ask) now m high none = (high, none)
asking_fits d w (parameters ask) now m high none = (high, none)
asking_fits d w (data_comes p) now m high none = (high, none)
asking_fits d w completion_ack now m high none = (high, none)

completed_fits : (d : Download) (p : Phase) (status : Status) (m : ℕ) → ReadFits d m → m ≤ MAX_RESOURCE → Steps (read.completed d p status) m
completed_fits d (phase.Completing own) status m fits few = fits
completed_fits d phase.Receiving status m fits few = (fits.0, few)
completed_fits d phase.Recovering status m fits few = (fits.0, few)
completed_fits d phase.Ended status m fits few = (fits.0, few)

acknowledged_fits : (d : Download) (p : Phase) (m : ℕ) → ReadFits d m → m ≤ MAX_RESOURCE → Steps (read.acknowledged d p) m
acknowledged_fits d (phase.Completing own) m fits few = (fits.0, few)
acknowledged_fits d phase.Receiving m fits few = fits
acknowledged_fits d phase.Recovering m fits few = fits
acknowledged_fits d phase.Ended m fits few = fits

receiving_fits : (d : Download) (r : Receiver) (x : Word) (now m : ℕ) → ReadFits d m → m ≤ r.next → r.next ≤ MAX_RESOURCE → Steps (read.receiving_hears d r x now) m
receiving_fits d r (data_comes p) now m fits low high = (fits.0, piece_fits r p now m low high)
receiving_fits d r (completion status) now m fits low high = completed_fits d r.phase status m fits (omega (arith, low, high))
receiving_fits d r completion_ack now m fits low high = acknowledged_fits d r.phase m fits (omega (arith, low, high))
receiving_fits d r (start a o) now m fits low high = fits
receiving_fits d r (start_ack a) now m fits low high = fits
receiving_fits d r (confirmation ask) now m fits low high = fits
receiving_fits d r (parameters ask) now m fits low high = fits

hears_fit : (d : Download) (stage : Reading) (x : Word) (now m : ℕ) → d.stage ≡ stage → ReadFits d m → Steps (read.hears_at d stage x now) m
hears_fit d reading.Unasked x now m e fits = fits
hears_fit d (reading.Asking w) x now m e fits = asking_fits d w x now m fits.0 (subst (λ s. StageFits s m) e fits.1)
hears_fit d (reading.Receiving r) x now m e fits = let at : StageFits (reading.Receiving r) m = subst (λ s. StageFits s m) e fits.1 in receiving_fits d r x now m fits at.0 at.1
hears_fit d (reading.Over status) x now m e fits = fits

closes_fit : (d : Download) (stage : Reading) (status : Status) (m : ℕ) → ReadFits d m → Steps (read.closes_at d stage status) m
closes_fit d (reading.Over ended) status m fits = fits
closes_fit d reading.Unasked status m fits = (fits.0, stage_small d.stage m fits.1)
closes_fit d (reading.Asking w) status m fits = (fits.0, stage_small d.stage m fits.1)
closes_fit d (reading.Receiving r) status m fits = (fits.0, at (is_open r.phase))
  where
    at : (b : Bool) → grown m (if b then leaves ∷ [] else []) ≤ MAX_RESOURCE
    at true = stage_small d.stage m fits.1
    at false = stage_small d.stage m fits.1

late_fits : (d : Download) (w : Wait) (now m : ℕ) (late again : Bool) → ReadFits d m → m ≡ 0
    → Steps (if late then (if again then read.asks d (waiting.again w now) else record { after = read.at_stage d (reading.Over DeadlineExceeded); sayings = [] }) else record { after = d; sayings = [] }) m
late_fits d w now m false again fits none = fits
late_fits d w now m true true fits none = (fits.0, none)
late_fits d w now m true false fits none = (fits.0, omega (arith, none))

ticks_fit : (d : Download) (stage : Reading) (now m : ℕ) → d.stage ≡ stage → ReadFits d m → Steps (read.ticks_at d stage now) m
ticks_fit d reading.Unasked now m e fits = fits
ticks_fit d (reading.Asking w) now m e fits = late_fits d w now m (waiting.is_late w now) (waiting.has_resends w) fits (subst (λ s. StageFits s m) e fits.1)
ticks_fit d (reading.Receiving r) now m e fits =
    let at : StageFits (reading.Receiving r) m = subst (λ s. StageFits s m) e fits.1 in
    let o : TickOutcome = tick_outcome r now in (
      fits.0,
      subst (StageFits (read.receiving_or_over o.after o.answer)) (sym (tick_grows m (is_open r.phase) o.answer))
          (over_fits o.after o.answer m (subst (λ n. m ≤ n) (sym (tick_next r now)) at.0) (subst (λ n. n ≤ MAX_RESOURCE) (sym (tick_next r now)) at.1)),
    )
ticks_fit d (reading.Over status) now m e fits = fits

module _ (m : ℕ) where
  abbrev ReadSaid : Download → List Saying → Type 0
  ReadSaid d said = ReadFits d (grown m said)

  read_more : (t : Stepped Download) (said : List Saying) → Steps t (grown m said) → ReadSaid t.after (said ++ t.sayings)
  read_more t said fits = subst (ReadFits t.after) (sym (grown_append m said t.sayings)) fits

  read_keeps : (session : ℕ) → KeepsSteps read_rules session ReadSaid (λ w. Unit {0})
  read_keeps session = record {
    opens = λ d said now j. read_more (read.opens_at d d.stage now) said (opens_fit d d.stage now (grown m said) refl j);
    hears = λ d said w now j h. read_more (read.hears_at d d.stage w now) said (hears_fit d d.stage w now (grown m said) refl j);
    closes = λ d said status j. read_more (read.closes_at d d.stage status) said (closes_fit d d.stage status (grown m said) j);
    ticks = λ d said now j. read_more (read.ticks_at d d.stage now) said (ticks_fit d d.stage now (grown m said) refl j);
  }

-- The steps of a write: it acts on no store.
pieces_grow : (m : ℕ) (ps : List Piece) → grown m (said_pieces ps) ≡ m
pieces_grow m [] = refl
pieces_grow m (p ∷ ps) = pieces_grow m ps

answer_grows : (m : ℕ) (ps : List Piece) (o : Option Status) → grown m (said_or_ended ps o) ≡ m
answer_grows m ps None = pieces_grow m ps
answer_grows m ps (Some status) = refl

timeout_grows : (m : ℕ) (o : Option Status) → grown m (of_timeout o) ≡ m
timeout_grows m None = refl
timeout_grows m (Some status) = refl

module _ (m : ℕ) where
  abbrev Same : Stepped Upload → Type 0
  Same t = grown m t.sayings ≡ m

  write_opens : (u : Upload) (stage : Writing) (now : ℕ) → Same (write.opens_at u stage now)
  write_opens u writing.Unasked now = refl
  write_opens u (writing.Asking w) now = refl
  write_opens u (writing.Confirming w) now = refl
  write_opens u (writing.Sending s) now = refl
  write_opens u (writing.Over status) now = refl

  write_agrees : (u : Upload) (agreed now : ℕ) → Same (write.agrees u agreed now)
  write_agrees u agreed now = at (nat_lt u.asked agreed)
    where
      at : (b : Bool) → Same (if b then record { after = write.at_stage u (writing.Over OutOfRange); sayings = says (completion OutOfRange) ∷ [] } else write.confirms (record u { agreed = Some agreed }) (waiting.new_wait now))
      at true = refl
      at false = refl

  write_asking : (u : Upload) (w : Wait) (x : Word) (now : ℕ) → Same (write.asking_hears u w x now)
  write_asking u w (start_ack agreed) now = write_agrees u agreed now
  write_asking u w (completion status) now = refl
  write_asking u w (start r o) now = refl
  write_asking u w (confirmation ask) now = refl
  write_asking u w (parameters ask) now = refl
  write_asking u w (data_comes p) now = refl
  write_asking u w completion_ack now = refl

  write_sends : (u : Upload) (s : Sender) (ask : Ask) (now : ℕ) → Same (write.sends u s ask now)
  write_sends u s ask now = answer_grows m (answer_to (touched s now) ask).pieces (answer_to (touched s now) ask).after.ended

  write_confirming : (u : Upload) (w : Wait) (x : Word) (now : ℕ) → Same (write.confirming_hears u w x now)
  write_confirming u w (parameters ask) now = write_sends u (new_sender u.bytes (write.write_offset u) now) ask now
  write_confirming u w (completion status) now = refl
  write_confirming u w (start r o) now = refl
  write_confirming u w (start_ack a) now = refl
  write_confirming u w (confirmation ask) now = refl
  write_confirming u w (data_comes p) now = refl
  write_confirming u w completion_ack now = refl

  write_sending : (u : Upload) (s : Sender) (x : Word) (now : ℕ) → Same (write.sending_hears u s x now)
  write_sending u s (parameters ask) now = write_sends u s ask now
  write_sending u s (completion status) now = refl
  write_sending u s (start r o) now = refl
  write_sending u s (start_ack a) now = refl
  write_sending u s (confirmation ask) now = refl
  write_sending u s (data_comes p) now = refl
  write_sending u s completion_ack now = refl

  write_hears : (u : Upload) (stage : Writing) (x : Word) (now : ℕ) → Same (write.hears_at u stage x now)
  write_hears u writing.Unasked x now = refl
  write_hears u (writing.Asking w) x now = write_asking u w x now
  write_hears u (writing.Confirming w) x now = write_confirming u w x now
  write_hears u (writing.Sending s) x now = write_sending u s x now
  write_hears u (writing.Over status) x now = refl

  write_closes : (u : Upload) (stage : Writing) (status : Status) → Same (write.closes_at u stage status)
  write_closes u writing.Unasked status = refl
  write_closes u (writing.Asking w) status = refl
  write_closes u (writing.Confirming w) status = refl
  write_closes u (writing.Sending s) status = refl
  write_closes u (writing.Over ended) status = refl

  write_ticks : (u : Upload) (stage : Writing) (now : ℕ) → Same (write.ticks_at u stage now)
  write_ticks u writing.Unasked now = refl
  write_ticks u (writing.Asking w) now = at (waiting.is_late w now) (waiting.has_resends w)
    where
      at : (late again : Bool) → Same (if late then (if again then write.asks u (waiting.again w now) else write.gives_up u) else record { after = u; sayings = [] })
      at false again = refl
      at true true = refl
      at true false = refl
  write_ticks u (writing.Confirming w) now = at (waiting.is_late w now) (waiting.has_resends w)
    where
      at : (late again : Bool) → Same (if late then (if again then write.confirms u (waiting.again w now) else write.gives_up u) else record { after = u; sayings = [] })
      at false again = refl
      at true true = refl
      at true false = refl
  write_ticks u (writing.Sending s) now = at (waiting.is_late_since s.active now)
    where
      at : (b : Bool) → Same (if b then write.sending_timeout u (ticked s now) else record { after = u; sayings = [] })
      at false = refl
      at true = timeout_grows m (ticked s now).ended
  write_ticks u (writing.Over status) now = refl

module _ (m : ℕ) where
  abbrev WriteSaid : Upload → List Saying → Type 0
  WriteSaid u said = grown m said ≡ m

  write_more : (t : Stepped Upload) (said : List Saying) → Same (grown m said) t → grown m said ≡ m → WriteSaid t.after (said ++ t.sayings)
  write_more t said same is = grown_append m said t.sayings ∙ (same ∙ is)

  write_keeps : (session : ℕ) → KeepsSteps write_rules session WriteSaid (λ w. Unit {0})
  write_keeps session = record {
    opens = λ u said now j. write_more (write.opens_at u u.stage now) said (write_opens (grown m said) u u.stage now) j;
    hears = λ u said w now j h. write_more (write.hears_at u u.stage w now) said (write_hears (grown m said) u u.stage w now) j;
    closes = λ u said status j. write_more (write.closes_at u u.stage status) said (write_closes (grown m said) u u.stage status) j;
    ticks = λ u said now j. write_more (write.ticks_at u u.stage now) said (write_ticks (grown m said) u u.stage now) j;
  }

-- WHERE A TRANSFER STANDS, whose work has at most m bytes
abbrev pub TransferFits : Transfer → ℕ → Type 0
TransferFits (reads d) m = ReadFits d m
TransferFits (writes u) m = m ≤ MAX_RESOURCE

pub transfer_small : (t : Transfer) (m : ℕ) → TransferFits t m → m ≤ MAX_RESOURCE
transfer_small (reads d) m fits = stage_small d.stage m fits.1
transfer_small (writes u) m fits = fits

pub poll_fits : (session : ℕ) (t : Transfer) (m : ℕ) (mail : List Mail) (now : ℕ) → TransferFits t m → TransferFits (transfer_polled session t mail now) (grown m (sayings_of session t mail now))
poll_fits session (reads d) m mail now fits = poll_keeps read_rules session (ReadSaid m) (λ w. Unit {0}) (read_keeps m session) d [] mail now (any_words session mail) fits
poll_fits session (writes u) m mail now fits =
    subst (λ n. n ≤ MAX_RESOURCE) (sym (poll_keeps write_rules session (WriteSaid m) (λ w. Unit {0}) (write_keeps m session) u [] mail now (any_words session mail) refl)) fits
