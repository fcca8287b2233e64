-- Where a receiver stands.
use Rattle.std.specs.Prelude.{Bool, true, false}
use Rattle.transfer_receiver.specs.declared.phase.Phase.{Phase}
use Rattle.transfer_receiver.specs.declared.phase.Phase.TheVariants.{Receiving, Recovering, Completing, Ended}

-- it still takes pieces
abbrev pub is_open : Phase → Bool
is_open Receiving = true
is_open Recovering = true
is_open (Completing status) = false
is_open Ended = false

-- it has asked for a retransmission, and kept nothing since
abbrev pub is_recovering : Phase → Bool
is_recovering Receiving = false
is_recovering Recovering = true
is_recovering (Completing status) = false
is_recovering Ended = false

abbrev pub is_ended : Phase → Bool
is_ended Receiving = false
is_ended Recovering = false
is_ended (Completing status) = false
is_ended Ended = true

-- an acknowledged end is the last of it; there is nothing to acknowledge before
abbrev pub phase_after_ack : Phase → Phase
phase_after_ack (Completing status) = Ended
phase_after_ack Receiving = Receiving
phase_after_ack Recovering = Recovering
phase_after_ack Ended = Ended
