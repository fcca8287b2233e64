-- What a receiver does with a piece.
use Rattle.std.specs.Prelude.{ℕ, ◌+◌, ◌-◌, ◌*◌, ◌==◌, ◌&&◌, nat_lt, nat_le, Bool, true, false, not, if◌then◌else◌, None, Some}
use Rattle.rpc_ids.specs.declared.Status.{Status}
use Rattle.rpc_ids.specs.declared.Status.TheVariants.{Okay, Internal, OutOfRange}
use Rattle.transfer_base.specs.declared.limits.TheConstants.{MAX_RESOURCE}
use Rattle.transfer_receiver.specs.declared.answers.Received.{Received}
use Rattle.transfer_receiver.specs.declared.answers.Received.TheVariants.{Ignored, Kept, Again, Ends}
use Rattle.transfer_receiver.specs.declared.phase.Phase.TheVariants.{Receiving, Recovering, Completing}
use Rattle.transfer_receiver.specs.Phase.{is_open, is_recovering}
use Rattle.transfer_receiver.specs.Receiver.{Receiver, asking, ask_of}

-- what a receiver is then, and its answer
pub record PieceOutcome : Type 0 where
  pub after : Receiver
  pub answer : Received

abbrev pub ignoring : Receiver → PieceOutcome
ignoring r = record { after = r; answer = Ignored }

-- the transfer ends: the sender is told, and is to acknowledge it
abbrev pub ending : Receiver → Status → PieceOutcome
ending r status = record { after = record r { phase = Completing status; resends = 0 }; answer = Ends status }

-- a piece was lost before this one: it is asked for once
abbrev pub asking_again : Receiver → PieceOutcome
asking_again r =
    if is_recovering r.phase then ignoring r
    else record { after = record (asking true r) { phase = Recovering }; answer = Again (ask_of true (asking true r)) }

-- a piece that ends here is kept
abbrev pub keeping : Receiver → ℕ → Receiver
keeping r end = record r { next = end; phase = Receiving; resends = 0 }

-- twice the rest of the window is at most the window
abbrev pub is_half_used : Receiver → Bool
is_half_used r = nat_le (2 * (r.window_end - r.next)) (r.span * r.chunk)

-- more is to come: it is asked for once half the window is used
abbrev pub going_on : Receiver → PieceOutcome
going_on r =
    if is_half_used r then record { after = asking false r; answer = Kept (Some (ask_of false (asking false r))) }
    else record { after = r; answer = Kept None }

-- a piece that begins where it should, and ends here
abbrev pub taking : Receiver → ℕ → Bool → PieceOutcome
taking r end last =
    if nat_lt r.window_end end then ending r Internal
    else if nat_lt MAX_RESOURCE end then ending r OutOfRange
    else if last then ending (keeping r end) Okay
    else going_on (keeping r end)

-- a piece that comes while the data phase lasts
abbrev pub open_outcome : Receiver → ℕ → ℕ → Bool → PieceOutcome
open_outcome r offset size last =
    if nat_lt offset r.next then ignoring r
    else if (size == 0) && not last then ignoring r
    else if nat_lt r.next offset then asking_again r
    else taking r (offset + size) last

-- a piece of so many bytes at an offset, by the first row that applies
abbrev pub piece_outcome : Receiver → ℕ → ℕ → Bool → PieceOutcome
piece_outcome r offset size last = if is_open r.phase then open_outcome r offset size last else ignoring r

-- each piece that comes is activity
abbrev pub active_at : ℕ → Receiver → Receiver
active_at now r = record r { active = now }
