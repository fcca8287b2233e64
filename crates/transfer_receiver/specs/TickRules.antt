-- What a receiver does as time goes on, and at an acknowledgement.
use Rattle.std.specs.Prelude.{ℕ, ◌+◌, nat_lt, nat_le, true, if◌then◌else◌}
use Rattle.rpc_ids.specs.declared.Status.{Status}
use Rattle.rpc_ids.specs.declared.Status.TheVariants.{DeadlineExceeded}
use Rattle.transfer_base.specs.declared.limits.TheConstants.{TIMEOUT}
use Rattle.transfer_receiver.specs.declared.answers.Ticked.{Ticked}
use Rattle.transfer_receiver.specs.declared.answers.Ticked.TheVariants.{Quiet, Resend, ResendEnd, Over}
use Rattle.transfer_receiver.specs.declared.phase.Phase.{Phase}
use Rattle.transfer_receiver.specs.declared.phase.Phase.TheVariants.{Receiving, Recovering, Completing, Ended}
use Rattle.transfer_receiver.specs.declared.receiver.TheConstants.{MAX_RESENDS}
use Rattle.transfer_receiver.specs.Phase.{phase_after_ack}
use Rattle.transfer_receiver.specs.Receiver.{Receiver, asking, ask_of}
use Rattle.transfer_receiver.specs.PieceRules.{active_at}

-- what a receiver is then, and its answer
pub record TickOutcome : Type 0 where
  pub after : Receiver
  pub answer : Ticked

abbrev pub staying : Receiver → TickOutcome
staying r = record { after = r; answer = Quiet }

-- it gives up
abbrev pub giving_up : Receiver → Status → TickOutcome
giving_up r status = record { after = record r { phase = Ended }; answer = Over status }

-- it asks again for all from its next byte on, unless it has done so too often
abbrev pub resending_ask : Receiver → TickOutcome
resending_ask r =
    if nat_lt r.resends MAX_RESENDS then record { after = record (asking true r) { resends = r.resends + 1 }; answer = Resend (ask_of true (asking true r)) }
    else giving_up r DeadlineExceeded

-- it tells its end again, unless it has done so too often
abbrev pub resending_end : Receiver → Status → TickOutcome
resending_end r status =
    if nat_lt r.resends MAX_RESENDS then record { after = record r { resends = r.resends + 1 }; answer = ResendEnd status }
    else giving_up r status

abbrev pub timeout_outcome : Receiver → Phase → TickOutcome
timeout_outcome r Receiving = resending_ask r
timeout_outcome r Recovering = resending_ask r
timeout_outcome r (Completing status) = resending_end r status
timeout_outcome r Ended = staying r

-- a timeout comes where nothing did for so long, and is itself activity
abbrev pub tick_outcome : Receiver → ℕ → TickOutcome
tick_outcome r now = if nat_le (r.active + TIMEOUT) now then timeout_outcome (active_at now r) r.phase else staying r

abbrev pub acknowledged : Receiver → Receiver
acknowledged r = record r { phase = phase_after_ack r.phase }
