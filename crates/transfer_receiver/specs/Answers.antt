-- What the answers of a receiver say.
use Rattle.std.specs.Prelude.{◌≡◌, ◌+◌, ◌*◌, ◌==◌, Bool, true, false, None, Some}
use Rattle.rpc_ids.specs.declared.Status.{Status}
use Rattle.rpc_ids.specs.Status.{status_number}
use Rattle.transfer_base.specs.declared.Ask.{Ask}
use Rattle.transfer_receiver.specs.declared.answers.Received.{Received}
use Rattle.transfer_receiver.specs.declared.answers.Received.TheVariants.{Ignored, Kept, Again, Ends}
use Rattle.transfer_receiver.specs.declared.answers.Ticked.{Ticked}
use Rattle.transfer_receiver.specs.declared.answers.Ticked.TheVariants.{Quiet, Resend, ResendEnd, Over}
use Rattle.transfer_receiver.specs.Receiver.{Receiver}

-- the ask goes on from the receiver's next byte, for a window of its span and with its chunks
pub record AsksFromNext (r : Receiver) (retransmits : Bool) (ask : Ask) : Type 0 where
  pub again : ask.again ≡ retransmits
  pub offset : ask.offset ≡ r.next
  pub window_end : ask.window_end ≡ r.next + r.span * r.chunk
  pub max_chunk : ask.max_chunk ≡ r.chunk

-- what an answer to a piece asks, if it does: a kept piece goes on, any other is a retransmission
abbrev pub AnyAsk : (Bool → Ask → Type 0) → Received → Type 0
AnyAsk P Ignored = Unit {0}
AnyAsk P (Kept None) = Unit {0}
AnyAsk P (Kept (Some ask)) = P false ask
AnyAsk P (Again ask) = P true ask
AnyAsk P (Ends status) = Unit {0}

abbrev pub AnyResend : (Bool → Ask → Type 0) → Ticked → Type 0
AnyResend P Quiet = Unit {0}
AnyResend P (Resend ask) = P true ask
AnyResend P (ResendEnd status) = Unit {0}
AnyResend P (Over status) = Unit {0}

abbrev pub is_okay : Status → Bool
is_okay status = status_number status == 0

-- the transfer ends well: the last piece was kept
abbrev pub ends_well : Received → Bool
ends_well Ignored = false
ends_well (Kept ask) = false
ends_well (Again ask) = false
ends_well (Ends status) = is_okay status

-- the piece is kept, and is to be appended
abbrev pub is_kept : Received → Bool
is_kept Ignored = false
is_kept (Kept ask) = true
is_kept (Again ask) = false
is_kept (Ends status) = is_okay status

-- something is to be sent again
abbrev pub is_resend : Ticked → Bool
is_resend Quiet = false
is_resend (Resend ask) = true
is_resend (ResendEnd status) = true
is_resend (Over status) = false

abbrev pub is_over : Ticked → Bool
is_over Quiet = false
is_over (Resend ask) = false
is_over (ResendEnd status) = false
is_over (Over status) = true
