-- How a session is opened, and what one that is opened makes of a word, of a tick and of the end of the call.
use Rattle.std.specs.Prelude.{ℕ, ◌+◌, ◌==◌, ◌||◌, nat_lt, nat_le, min, if◌then◌else◌, List, [], ◌∷◌, ◌++◌, length, Option, Some, None, Result, Ok, Err, unwrap_or}
use Rattle.rpc_ids.specs.declared.Status.{Status}
use Rattle.rpc_ids.specs.declared.Status.TheVariants.{NotFound, OutOfRange, DeadlineExceeded, Cancelled}
use Rattle.link_io.specs.declared.Shelf.{Shelf}
use Rattle.link_io.specs.Resources.{first_of}
use Rattle.transfer_base.specs.declared.Ask.{Ask}
use Rattle.transfer_base.specs.declared.limits.TheConstants.{MAX_RESOURCE, TIMEOUT}
use Rattle.transfer_sender.specs.declared.sender.TheConstants.{MAX_TIMEOUTS}
use Rattle.transfer_sender.specs.Sender.{new_sender}
use Rattle.transfer_receiver.specs.Receiver.{Receiver, new_receiver, first_ask}
use Rattle.transfer_words.specs.Word.{Word, start, start_ack, confirmation, parameters, completion, completion_ack}
use Rattle.transfer_words.specs.Saying.{Saying, Stepped, says, begins, leaves}
use Rattle.transfer_resume.specs.declared.side.Side.{Side}
use Rattle.transfer_resume.specs.declared.side.Side.TheVariants.{Read, Write}
use Rattle.transfer_resume.specs.declared.stage.Opening.{Opening}
use Rattle.transfer_resume.specs.declared.stage.Stage.{Stage}
use Rattle.transfer_resume.specs.declared.stage.Stage.TheVariants as stage
use Rattle.transfer_resume.specs.Session.{Service, saying, staying}
use Rattle.transfer_resume.specs.Sender.{asked}

-- the service tells how the session ended, and keeps no more of it
abbrev pub telling_end : Status → Stepped Stage
telling_end status = saying (stage.Ended status) (says (completion status))

-- the bytes that a read from an offset is of, or why there is none
abbrev pub offered : Option (List ℕ) → ℕ → Result (List ℕ) Status
offered None offset = Err NotFound
offered (Some bytes) offset = if nat_lt MAX_RESOURCE (length bytes) || nat_lt (length bytes) offset then Err OutOfRange else Ok bytes

abbrev pub offer_of : Shelf → ℕ → ℕ → Result (List ℕ) Status
offer_of shelf resource offset = offered (first_of resource shelf.full) offset

abbrev pub new_opening : ℕ → ℕ → ℕ → Opening
new_opening resource agreed now = record { resource = resource; agreed = agreed; active = now; timeouts = 0 }

-- a read is opened where the shelf has what is asked
abbrev pub opened_read : ℕ → ℕ → ℕ → Result (List ℕ) Status → Stepped Stage
opened_read now resource offset (Err status) = telling_end status
opened_read now resource offset (Ok bytes) = saying (stage.Opening (new_opening resource offset now)) (says (start_ack offset))

-- a write goes on from what is left of its resource, and from no further than is asked
abbrev pub agreed_offset : Shelf → ℕ → ℕ → ℕ
agreed_offset shelf resource offset = min (min offset (unwrap_or (first_of resource shelf.left) 0)) MAX_RESOURCE

abbrev pub opened_write : ℕ → ℕ → ℕ → Stepped Stage
opened_write now resource agreed =
    record { after = stage.Opening (new_opening resource agreed now); sayings = begins resource agreed ∷ says (start_ack agreed) ∷ [] }

abbrev pub opened : Side → Service → ℕ → ℕ → Stepped Stage
opened Read k resource offset = opened_read k.time resource offset (offer_of k.shelf resource offset)
opened Write k resource offset = opened_write k.time resource (agreed_offset k.shelf resource offset)

-- each chunk of the session is activity
abbrev pub touched_opening : ℕ → Opening → Opening
touched_opening now o = record o { active = now; timeouts = 0 }

-- a START again, for the same resource, is answered as the first was
abbrev pub started_again : Opening → ℕ → List Saying
started_again o resource = if o.resource == resource then says (start_ack o.agreed) ∷ [] else []

-- a read sends what the confirmation asks for, from its offset on
abbrev pub reading : ℕ → ℕ → Ask → Result (List ℕ) Status → Stepped Stage
reading now agreed ask (Err status) = telling_end status
reading now agreed ask (Ok bytes) = asked now (new_sender bytes agreed now) ask

-- a write asks for what it is to receive
abbrev pub writing : Receiver → Stepped Stage
writing r = saying (stage.Receiving r) (says (parameters (first_ask r)))

-- the data phase begins
abbrev pub confirmed : Side → Service → Opening → Ask → Stepped Stage
confirmed Read k o ask = reading k.time o.agreed ask (offer_of k.shelf o.resource o.agreed)
confirmed Write k o ask = writing (new_receiver o.agreed k.window k.chunk k.time)

-- an upload that doesn't end well is left; a read has none
abbrev pub leaving : Side → List Saying
leaving Read = []
leaving Write = leaves ∷ []

abbrev pub opening_hears : Service → Opening → Word → Stepped Stage
opening_hears k o (start resource offset) = record { after = stage.Opening (touched_opening k.time o); sayings = started_again o resource }
opening_hears k o (confirmation ask) = confirmed k.side k o ask
opening_hears k o (completion status) = record { after = stage.Ended status; sayings = leaving k.side ++ says completion_ack ∷ [] }
opening_hears k o _ = staying (stage.Opening (touched_opening k.time o))

-- an opening that waits too long, for the fifth time in a row, ends
abbrev pub opening_timeout : Side → ℕ → Opening → Stepped Stage
opening_timeout side now o =
    if o.timeouts + 1 == MAX_TIMEOUTS then record { after = stage.Ended DeadlineExceeded; sayings = leaving side ++ says (completion DeadlineExceeded) ∷ [] }
    else staying (stage.Opening (record o { active = now; timeouts = o.timeouts + 1 }))

abbrev pub opening_ticks : Side → ℕ → Opening → Stepped Stage
opening_ticks side now o = if nat_le (o.active + TIMEOUT) now then opening_timeout side now o else staying (stage.Opening o)

abbrev pub opening_stops : Side → Stepped Stage
opening_stops side = record { after = stage.Ended Cancelled; sayings = leaving side }
