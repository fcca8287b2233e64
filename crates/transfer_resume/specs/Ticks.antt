-- What a session that is there makes of the time, and of the end of the call.
use Rattle.std.specs.Prelude.{ℕ}
use Rattle.rpc_ids.specs.declared.Status.TheVariants.{Cancelled}
use Rattle.transfer_words.specs.Saying.{Stepped}
use Rattle.transfer_resume.specs.declared.side.Side.{Side}
use Rattle.transfer_resume.specs.declared.stage.Stage.{Stage}
use Rattle.transfer_resume.specs.declared.stage.Stage.TheVariants as stage
use Rattle.transfer_resume.specs.Session.{staying}
use Rattle.transfer_resume.specs.Opening.{opening_ticks, opening_stops}
use Rattle.transfer_resume.specs.Sender.{sender_ticks}
use Rattle.transfer_resume.specs.Receiver.{receiver_ticks, receiver_stops}

abbrev pub stage_ticks : Side → ℕ → Stage → Stepped Stage
stage_ticks side now (stage.Opening o) = opening_ticks side now o
stage_ticks side now (stage.Sending s) = sender_ticks now s
stage_ticks side now (stage.Receiving r) = receiver_ticks now r
stage_ticks side now (stage.Ended status) = staying (stage.Ended status)

abbrev pub stage_stops : Side → Stage → Stepped Stage
stage_stops side (stage.Opening o) = opening_stops side
stage_stops side (stage.Sending s) = staying (stage.Ended Cancelled)
stage_stops side (stage.Receiving r) = receiver_stops r.phase
stage_stops side (stage.Ended status) = staying (stage.Ended status)
