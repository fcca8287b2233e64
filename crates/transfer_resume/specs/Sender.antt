-- What a session that sends makes of a word, of a tick and of the end of the call.
use Rattle.std.specs.Prelude.{ℕ, Option, Some, None}
use Rattle.rpc_ids.specs.declared.Status.{Status}
use Rattle.transfer_base.specs.declared.Ask.{Ask}
use Rattle.transfer_sender.specs.Answer.{answer_to}
use Rattle.transfer_sender.specs.Sender.{Sender, touched, ticked}
use Rattle.transfer_words.specs.Word.{Word, parameters, completion, completion_ack}
use Rattle.transfer_words.specs.Saying.{Stepped, says}
use Rattle.transfer_words.specs.CoreAnswers.{of_answer, of_timeout}
use Rattle.transfer_resume.specs.declared.stage.Stage.{Stage}
use Rattle.transfer_resume.specs.declared.stage.Stage.TheVariants as stage
use Rattle.transfer_resume.specs.Session.{saying, staying}

-- a sender goes on, unless it has ended
abbrev pub sending_or_ended : Sender → Option Status → Stage
sending_or_ended s None = stage.Sending s
sending_or_ended s (Some status) = stage.Ended status

-- an ask is answered
abbrev pub asked : ℕ → Sender → Ask → Stepped Stage
asked now s ask =
    let a = answer_to (touched s now) ask in
    record { after = sending_or_ended a.after a.after.ended; sayings = of_answer a }

-- the client has told how the session ended
abbrev pub told_end : Status → Stepped Stage
told_end status = saying (stage.Ended status) (says completion_ack)

-- each chunk of the session is activity
abbrev pub sender_hears : ℕ → Sender → Word → Stepped Stage
sender_hears now s (parameters ask) = asked now s ask
sender_hears now s (completion status) = told_end status
sender_hears now s _ = staying (stage.Sending (touched s now))

-- the fifth timeout in a row ends it
abbrev pub sender_ticks : ℕ → Sender → Stepped Stage
sender_ticks now s = record { after = sending_or_ended (ticked s now) (ticked s now).ended; sayings = of_timeout (ticked s now).ended }
