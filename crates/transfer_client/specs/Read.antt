-- What a client does that reads a resource.
use Rattle.std.specs.Prelude.{◌≡◌, ℕ, ◌≤◌, nat_lt, false, if◌then◌else◌, List, [], ◌∷◌, Option, Some, None, unwrap_or}
use Rattle.rpc_ids.specs.declared.Status.{Status}
use Rattle.rpc_ids.specs.declared.Status.TheVariants.{OutOfRange, DeadlineExceeded}
use Rattle.transfer_base.specs.declared.Piece.{Piece}
use Rattle.transfer_base.specs.declared.limits.TheConstants.{MAX_RESOURCE}
use Rattle.transfer_base.specs.Deadline.{deadline_after}
use Rattle.transfer_receiver.specs.declared.answers.Ticked.{Ticked}
use Rattle.transfer_receiver.specs.declared.answers.Ticked.TheVariants.{Quiet, Resend, ResendEnd, Over}
use Rattle.transfer_receiver.specs.declared.phase.Phase.{Phase}
use Rattle.transfer_receiver.specs.declared.phase.Phase.TheVariants.{Completing}
use Rattle.transfer_receiver.specs.Phase.{is_open, is_ended}
use Rattle.transfer_receiver.specs.Receiver.{Receiver, new_receiver, first_ask}
use Rattle.transfer_receiver.specs.PieceRules.{PieceOutcome}
use Rattle.transfer_receiver.specs.Run.{outcome_of}
use Rattle.transfer_receiver.specs.TickRules.{TickOutcome, tick_outcome}
use Rattle.transfer_words.specs.Word.{Word, start, start_ack, confirmation, data_comes, completion, completion_ack}
use Rattle.transfer_words.specs.Saying.{Saying, Stepped, says, begins, leaves}
use Rattle.transfer_words.specs.CoreAnswers.{of_piece, of_tick}
use Rattle.transfer_client.specs.declared.stages.Wait.{Wait}
use Rattle.transfer_client.specs.declared.stages.Reading.{Reading}
use Rattle.transfer_client.specs.declared.stages.Reading.TheVariants as reading
use Rattle.transfer_client.specs.Wait.{new_wait, touched, again, is_late, has_resends, end_by_call}
use Rattle.transfer_client.specs.Machine.{Rules, staying, saying}

-- Offsets are in bytes.
pub record Download : Type 0 where
  pub resource : ℕ
  -- the offset that is asked for
  pub asked : ℕ
  -- how it asks for pieces: the chunks of its first window, and the bytes of a chunk
  pub window : ℕ
  pub chunk : ℕ
  -- the offset that the service agreed to, if it did
  pub agreed : Option ℕ
  pub stage : Reading

abbrev pub new_download : ℕ → ℕ → ℕ → ℕ → Download
new_download resource offset window chunk =
    record { resource = resource; asked = offset; window = window; chunk = chunk; agreed = None; stage = reading.Unasked }

-- where both ends begin: at what was agreed, or asked where nothing was
abbrev pub read_offset : Download → ℕ
read_offset d = unwrap_or d.agreed d.asked

-- what stands of every read
abbrev pub IsGoing : Reading → Type 0
IsGoing reading.Unasked = Unit {0}
IsGoing (reading.Asking w) = Unit {0}
IsGoing (reading.Receiving r) = is_ended r.phase ≡ false
IsGoing (reading.Over status) = Unit {0}

pub record IsDownload (d : Download) : Type 0 where
  pub asked_high : d.asked ≤ MAX_RESOURCE
  pub going : IsGoing d.stage

abbrev pub at_stage : Download → Reading → Download
at_stage d stage = record d { stage = stage }

abbrev pub asks : Download → Wait → Stepped Download
asks d w = saying (at_stage d (reading.Asking w)) (says (start d.resource d.asked))

abbrev pub opens_at : Download → Reading → ℕ → Stepped Download
opens_at d reading.Unasked now = asks d (new_wait now)
opens_at d (reading.Asking w) now = staying d
opens_at d (reading.Receiving r) now = staying d
opens_at d (reading.Over status) now = staying d

-- the work on the resource begins, and this receiver asks for its first pieces
abbrev pub receives : Download → ℕ → Receiver → Stepped Download
receives d agreed r = record {
  after = record d { agreed = Some agreed; stage = reading.Receiving r };
  sayings = begins d.resource agreed ∷ says (confirmation (first_ask r)) ∷ [];
}

-- the service agrees to an offset; one past the offset that was asked for ends the transfer
abbrev pub agrees : Download → ℕ → ℕ → Stepped Download
agrees d agreed now =
    if nat_lt d.asked agreed then saying (at_stage d (reading.Over OutOfRange)) (says (completion OutOfRange))
    else receives d agreed (new_receiver agreed d.window d.chunk now)

-- in the opening each chunk of the session is activity
abbrev pub asking_hears : Download → Wait → Word → ℕ → Stepped Download
asking_hears d w (start_ack agreed) now = agrees d agreed now
asking_hears d w (completion status) now = saying (at_stage d (reading.Over status)) (says completion_ack)
asking_hears d w _ now = staying (at_stage d (reading.Asking (touched w now)))

-- the service tells an end, which is the end of a read that hasn't told its own
abbrev pub completed : Download → Phase → Status → Stepped Download
completed d (Completing own) status = saying d (says completion_ack)
completed d _ status = record { after = at_stage d (reading.Over status); sayings = leaves ∷ says completion_ack ∷ [] }

-- the service knows the end
abbrev pub acknowledged : Download → Phase → Stepped Download
acknowledged d (Completing own) = staying (at_stage d (reading.Over own))
acknowledged d _ = staying d

abbrev pub takes_piece : Download → Piece → PieceOutcome → Stepped Download
takes_piece d p o = record { after = at_stage d (reading.Receiving o.after); sayings = of_piece p.bytes o.answer }

-- what is no piece is no activity
abbrev pub receiving_hears : Download → Receiver → Word → ℕ → Stepped Download
receiving_hears d r (data_comes p) now = takes_piece d p (outcome_of r p now)
receiving_hears d r (completion status) now = completed d r.phase status
receiving_hears d r completion_ack now = acknowledged d r.phase
receiving_hears d r _ now = staying d

abbrev pub hears_at : Download → Reading → Word → ℕ → Stepped Download
hears_at d reading.Unasked w now = staying d
hears_at d (reading.Asking wait) w now = asking_hears d wait w now
hears_at d (reading.Receiving r) w now = receiving_hears d r w now
hears_at d (reading.Over status) w now = staying d

-- work that has begun and isn't whole is left
abbrev pub left_by : Reading → List Saying
left_by reading.Unasked = []
left_by (reading.Asking w) = []
left_by (reading.Receiving r) = if is_open r.phase then leaves ∷ [] else []
left_by (reading.Over status) = []

abbrev pub closes_at : Download → Reading → Status → Stepped Download
closes_at d (reading.Over ended) status = staying d
closes_at d stage status = record { after = at_stage d (reading.Over (end_by_call status)); sayings = left_by stage }

-- it asks again, unless it has done so too often
abbrev pub asking_timeout : Download → Wait → ℕ → Stepped Download
asking_timeout d w now = if has_resends w then asks d (again w now) else staying (at_stage d (reading.Over DeadlineExceeded))

-- a receiver goes on, unless it has given up
abbrev pub receiving_or_over : Receiver → Ticked → Reading
receiving_or_over r Quiet = reading.Receiving r
receiving_or_over r (Resend ask) = reading.Receiving r
receiving_or_over r (ResendEnd status) = reading.Receiving r
receiving_or_over r (Over status) = reading.Over status

abbrev pub receiving_ticks : Download → Receiver → TickOutcome → Stepped Download
receiving_ticks d r o = record { after = at_stage d (receiving_or_over o.after o.answer); sayings = of_tick (is_open r.phase) o.answer }

abbrev pub ticks_at : Download → Reading → ℕ → Stepped Download
ticks_at d reading.Unasked now = staying d
ticks_at d (reading.Asking w) now = if is_late w now then asking_timeout d w now else staying d
ticks_at d (reading.Receiving r) now = receiving_ticks d r (tick_outcome r now)
ticks_at d (reading.Over status) now = staying d

abbrev pub end_at : Reading → Option Status
end_at reading.Unasked = None
end_at (reading.Asking w) = None
end_at (reading.Receiving r) = None
end_at (reading.Over status) = Some status

abbrev pub deadline_at : Reading → Option ℕ
deadline_at reading.Unasked = None
deadline_at (reading.Asking w) = Some (deadline_after w.active)
deadline_at (reading.Receiving r) = Some (deadline_after r.active)
deadline_at (reading.Over status) = None

-- THE DEFINITION OF A READ
abbrev pub read_rules : Rules Download
read_rules = record {
  opens = λ d now. opens_at d d.stage now;
  hears = λ d w now. hears_at d d.stage w now;
  closes = λ d status. closes_at d d.stage status;
  ticks = λ d now. ticks_at d d.stage now;
  end_of = λ d. end_at d.stage;
  deadline_of = λ d. deadline_at d.stage;
}
