-- What a client does that writes a resource.
use Rattle.std.specs.Prelude.{◌≡◌, ℕ, ◌≤◌, nat_lt, true, if◌then◌else◌, List, length, Option, Some, None, IfSome, unwrap_or}
use Rattle.rpc_ids.specs.declared.Status.{Status}
use Rattle.rpc_ids.specs.declared.Status.TheVariants.{OutOfRange, DeadlineExceeded}
use Rattle.transfer_base.specs.declared.Ask.{Ask}
use Rattle.transfer_base.specs.declared.limits.TheConstants.{MAX_RESOURCE}
use Rattle.transfer_base.specs.Deadline.{deadline_after}
use Rattle.transfer_sender.specs.Answer.{Answer, answer_to}
use Rattle.transfer_sender.specs.Sender.{Sender, new_sender, touched, ticked}
use Rattle.transfer_words.specs.Word.{Word, start, start_ack, confirmation, parameters, completion, completion_ack}
use Rattle.transfer_words.specs.Saying.{Stepped, says}
use Rattle.transfer_words.specs.CoreAnswers.{of_answer, of_timeout}
use Rattle.transfer_client.specs.declared.stages.Wait.{Wait}
use Rattle.transfer_client.specs.declared.stages.Writing.{Writing}
use Rattle.transfer_client.specs.declared.stages.Writing.TheVariants as writing
use Rattle.transfer_client.specs.Wait as waiting
use Rattle.transfer_client.specs.Machine.{Rules, staying, saying}

-- Offsets are in bytes.
pub record Upload : Type 0 where
  pub resource : ℕ
  -- the whole resource
  pub bytes : List ℕ
  -- the offset that is asked for
  pub asked : ℕ
  -- the offset that the service agreed to, if it did
  pub agreed : Option ℕ
  pub stage : Writing

abbrev pub new_upload : ℕ → List ℕ → ℕ → Upload
new_upload resource bytes offset = record { resource = resource; bytes = bytes; asked = offset; agreed = None; stage = writing.Unasked }

-- where both ends begin: at what was agreed, or asked where nothing was
abbrev pub write_offset : Upload → ℕ
write_offset u = unwrap_or u.agreed u.asked

-- what stands of every write
abbrev pub IsGoing : Writing → Type 0
IsGoing writing.Unasked = Unit {0}
IsGoing (writing.Asking w) = Unit {0}
IsGoing (writing.Confirming w) = Unit {0}
IsGoing (writing.Sending s) = s.ended ≡ None
IsGoing (writing.Over status) = Unit {0}

pub record IsUpload (u : Upload) : Type 0 where
  pub size : length u.bytes ≤ MAX_RESOURCE
  pub within : u.asked ≤ length u.bytes
  pub agreed : IfSome u.agreed (λ agreed. agreed ≤ u.asked)
  pub going : IsGoing u.stage

abbrev pub at_stage : Upload → Writing → Upload
at_stage u stage = record u { stage = stage }

abbrev pub asks : Upload → Wait → Stepped Upload
asks u w = saying (at_stage u (writing.Asking w)) (says (start u.resource u.asked))

-- the confirmation of a write asks for nothing
abbrev pub no_ask : Ask
no_ask = record { again = true; offset = 0; window_end = 0; max_chunk = 0 }

abbrev pub confirms : Upload → Wait → Stepped Upload
confirms u w = saying (at_stage u (writing.Confirming w)) (says (confirmation no_ask))

abbrev pub opens_at : Upload → Writing → ℕ → Stepped Upload
opens_at u writing.Unasked now = asks u (waiting.new_wait now)
opens_at u (writing.Asking w) now = staying u
opens_at u (writing.Confirming w) now = staying u
opens_at u (writing.Sending s) now = staying u
opens_at u (writing.Over status) now = staying u

-- the service agrees to an offset; one past the offset that was asked for ends the transfer
abbrev pub agrees : Upload → ℕ → ℕ → Stepped Upload
agrees u agreed now =
    if nat_lt u.asked agreed then saying (at_stage u (writing.Over OutOfRange)) (says (completion OutOfRange))
    else confirms (record u { agreed = Some agreed }) (waiting.new_wait now)

-- a sender goes on, unless it has ended
abbrev pub sending_or_over : Sender → Option Status → Writing
sending_or_over s None = writing.Sending s
sending_or_over s (Some status) = writing.Over status

abbrev pub answers : Upload → Answer → Stepped Upload
answers u a = record { after = at_stage u (sending_or_over a.after a.after.ended); sayings = of_answer a }

-- parameters are answered
abbrev pub sends : Upload → Sender → Ask → ℕ → Stepped Upload
sends u s ask now = answers u (answer_to (touched s now) ask)

-- the service tells an end
abbrev pub completed : Upload → Status → Stepped Upload
completed u status = saying (at_stage u (writing.Over status)) (says completion_ack)

-- in the opening each chunk of the session is activity
abbrev pub asking_hears : Upload → Wait → Word → ℕ → Stepped Upload
asking_hears u w (start_ack agreed) now = agrees u agreed now
asking_hears u w (completion status) now = completed u status
asking_hears u w _ now = staying (at_stage u (writing.Asking (waiting.touched w now)))

-- the first parameters begin the data phase
abbrev pub confirming_hears : Upload → Wait → Word → ℕ → Stepped Upload
confirming_hears u w (parameters ask) now = sends u (new_sender u.bytes (write_offset u) now) ask now
confirming_hears u w (completion status) now = completed u status
confirming_hears u w _ now = staying (at_stage u (writing.Confirming (waiting.touched w now)))

-- each chunk of the session is activity
abbrev pub sending_hears : Upload → Sender → Word → ℕ → Stepped Upload
sending_hears u s (parameters ask) now = sends u s ask now
sending_hears u s (completion status) now = completed u status
sending_hears u s _ now = staying (at_stage u (writing.Sending (touched s now)))

abbrev pub hears_at : Upload → Writing → Word → ℕ → Stepped Upload
hears_at u writing.Unasked w now = staying u
hears_at u (writing.Asking wait) w now = asking_hears u wait w now
hears_at u (writing.Confirming wait) w now = confirming_hears u wait w now
hears_at u (writing.Sending s) w now = sending_hears u s w now
hears_at u (writing.Over status) w now = staying u

abbrev pub closes_at : Upload → Writing → Status → Stepped Upload
closes_at u (writing.Over ended) status = staying u
closes_at u _ status = staying (at_stage u (writing.Over (waiting.end_by_call status)))

abbrev pub gives_up : Upload → Stepped Upload
gives_up u = staying (at_stage u (writing.Over DeadlineExceeded))

-- it asks again, unless it has done so too often
abbrev pub asking_timeout : Upload → Wait → ℕ → Stepped Upload
asking_timeout u w now = if waiting.has_resends w then asks u (waiting.again w now) else gives_up u

abbrev pub confirming_timeout : Upload → Wait → ℕ → Stepped Upload
confirming_timeout u w now = if waiting.has_resends w then confirms u (waiting.again w now) else gives_up u

-- the fifth timeout in a row ends it
abbrev pub sending_timeout : Upload → Sender → Stepped Upload
sending_timeout u s = record { after = at_stage u (sending_or_over s s.ended); sayings = of_timeout s.ended }

abbrev pub ticks_at : Upload → Writing → ℕ → Stepped Upload
ticks_at u writing.Unasked now = staying u
ticks_at u (writing.Asking w) now = if waiting.is_late w now then asking_timeout u w now else staying u
ticks_at u (writing.Confirming w) now = if waiting.is_late w now then confirming_timeout u w now else staying u
ticks_at u (writing.Sending s) now = if waiting.is_late_since s.active now then sending_timeout u (ticked s now) else staying u
ticks_at u (writing.Over status) now = staying u

abbrev pub end_at : Writing → Option Status
end_at writing.Unasked = None
end_at (writing.Asking w) = None
end_at (writing.Confirming w) = None
end_at (writing.Sending s) = None
end_at (writing.Over status) = Some status

abbrev pub deadline_at : Writing → Option ℕ
deadline_at writing.Unasked = None
deadline_at (writing.Asking w) = Some (deadline_after w.active)
deadline_at (writing.Confirming w) = Some (deadline_after w.active)
deadline_at (writing.Sending s) = Some (deadline_after s.active)
deadline_at (writing.Over status) = None

-- THE DEFINITION OF A WRITE
abbrev pub write_rules : Rules Upload
write_rules = record {
  opens = λ u now. opens_at u u.stage now;
  hears = λ u w now. hears_at u u.stage w now;
  closes = λ u status. closes_at u u.stage status;
  ticks = λ u now. ticks_at u u.stage now;
  end_of = λ u. end_at u.stage;
  deadline_of = λ u. deadline_at u.stage;
}
