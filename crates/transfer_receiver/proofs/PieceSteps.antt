-- What comes of one piece, of a tick and of an acknowledgement, as far as the kept pieces depend on it.
use Rattle.std.proofs.Common.{◌≡◌, ℕ, ◌+◌, ◌==◌, ◌&&◌, not, if◌then◌else◌, refl, nat_lt, nat_le, Bool, true, false, arith, ap}
use Rattle.std.proofs.lemmas.Bool.Decides.{nat_tests}
use Rattle.transfer_base.specs.declared.limits.TheConstants.{MAX_RESOURCE, TIMEOUT}
use Rattle.transfer_receiver.specs.declared.receiver.TheConstants.{MAX_RESENDS}
use Rattle.transfer_receiver.specs.declared.phase.Phase.{Phase}
use Rattle.transfer_receiver.specs.declared.phase.Phase.TheVariants.{Receiving, Recovering, Completing, Ended}
use Rattle.rpc_ids.specs.declared.Status.TheVariants.{Okay, OutOfRange}
use Rattle.transfer_receiver.specs.Phase.{is_open, is_recovering, phase_after_ack}
use Rattle.transfer_receiver.specs.Receiver.{Receiver}
use Rattle.transfer_receiver.specs.PieceRules.{PieceOutcome, ignoring, ending, asking_again, keeping, going_on, is_half_used, taking, open_outcome, piece_outcome, active_at}
use Rattle.transfer_receiver.specs.TickRules.{timeout_outcome, tick_outcome, acknowledged}
use Rattle.transfer_receiver.specs.Answers.{is_kept, ends_well}

pub data Step (r : Receiver) (offset size : ℕ) (last : Bool) (t : PieceOutcome) : Type 0 where
  passes_over : is_kept t.answer ≡ false → ends_well t.answer ≡ false → t.after.next ≡ r.next → Step r offset size last t
  goes_on : is_kept t.answer ≡ true → ends_well t.answer ≡ false → offset ≡ r.next → t.after.next ≡ offset + size → last ≡ false → Step r offset size last t
  ends_here : is_kept t.answer ≡ true → ends_well t.answer ≡ true → offset ≡ r.next → t.after.next ≡ offset + size → last ≡ true → is_open t.after.phase ≡ false → Step r offset size last t

again_step : (r : Receiver) (offset size : ℕ) (last : Bool) (b : Bool) → is_recovering r.phase ≡ b → Step r offset size last (asking_again r)
again_step r offset size last true e = rw e (passes_over refl refl refl)
again_step r offset size last false e = rw e (passes_over refl refl refl)

more_step : (r : Receiver) (offset size : ℕ) (b : Bool) → is_half_used (keeping r (offset + size)) ≡ b → offset ≡ r.next →
    Step r offset size false (going_on (keeping r (offset + size)))
more_step r offset size true e at_next = rw e (goes_on refl refl at_next refl refl)
more_step r offset size false e at_next = rw e (goes_on refl refl at_next refl refl)

kept_step : (r : Receiver) (offset size : ℕ) (last : Bool) → offset ≡ r.next →
    Step r offset size last (if last then ending (keeping r (offset + size)) Okay else going_on (keeping r (offset + size)))
kept_step r offset size true at_next = ends_here refl refl at_next refl refl refl
kept_step r offset size false at_next = more_step r offset size (is_half_used (keeping r (offset + size))) refl at_next

in_range_step : (r : Receiver) (offset size : ℕ) (last : Bool) (b : Bool) → nat_lt MAX_RESOURCE (offset + size) ≡ b → offset ≡ r.next →
    Step r offset size last (if nat_lt MAX_RESOURCE (offset + size) then ending r OutOfRange else if last then ending (keeping r (offset + size)) Okay else going_on (keeping r (offset + size)))
in_range_step r offset size last true e at_next = rw e (passes_over refl refl refl)
in_range_step r offset size last false e at_next = rw e (kept_step r offset size last at_next)

taking_step : (r : Receiver) (offset size : ℕ) (last : Bool) (b : Bool) → nat_lt r.window_end (offset + size) ≡ b → offset ≡ r.next →
    Step r offset size last (taking r (offset + size) last)
taking_step r offset size last true e at_next = rw e (passes_over refl refl refl)
taking_step r offset size last false e at_next = rw e (in_range_step r offset size last (nat_lt MAX_RESOURCE (offset + size)) refl at_next)

past_step : (r : Receiver) (offset size : ℕ) (last : Bool) (b : Bool) → nat_lt r.next offset ≡ b → nat_lt offset r.next ≡ false →
    Step r offset size last (if nat_lt r.next offset then asking_again r else taking r (offset + size) last)
past_step r offset size last true e not_before = rw e (again_step r offset size last (is_recovering r.phase) refl)
past_step r offset size last false e not_before =
    let at_next : offset ≡ r.next = grind (arith, nat_tests) in
    rw e (taking_step r offset size last (nat_lt r.window_end (offset + size)) refl at_next)

empty_step : (r : Receiver) (offset size : ℕ) (last : Bool) (b : Bool) → ((size == 0) && not last) ≡ b → nat_lt offset r.next ≡ false →
    Step r offset size last (if (size == 0) && not last then ignoring r else if nat_lt r.next offset then asking_again r else taking r (offset + size) last)
empty_step r offset size last true e not_before = rw e (passes_over refl refl refl)
empty_step r offset size last false e not_before = rw e (past_step r offset size last (nat_lt r.next offset) refl not_before)

open_step : (r : Receiver) (offset size : ℕ) (last : Bool) (b : Bool) → nat_lt offset r.next ≡ b → Step r offset size last (open_outcome r offset size last)
open_step r offset size last true e = rw e (passes_over refl refl refl)
open_step r offset size last false e = rw e (empty_step r offset size last ((size == 0) && not last) refl e)

piece_step : (r : Receiver) (offset size : ℕ) (last : Bool) (b : Bool) → is_open r.phase ≡ b → Step r offset size last (piece_outcome r offset size last)
piece_step r offset size last true e = rw e (open_step r offset size last (nat_lt offset r.next) refl)
piece_step r offset size last false e = rw e (passes_over refl refl refl)

-- a piece takes one of these steps
pub step_of : (r : Receiver) (offset size : ℕ) (last : Bool) (now : ℕ) → Step r offset size last (piece_outcome (active_at now r) offset size last)
step_of r offset size last now =
    elim (piece_step (active_at now r) offset size last (is_open r.phase) refl) [
      | passes_over kept well next ↦ passes_over kept well next
      | goes_on kept well at next more ↦ goes_on kept well at next more
      | ends_here kept well at next ends closed ↦ ends_here kept well at next ends closed
    ]

timeout_next : (r : Receiver) (phase : Phase) (b : Bool) → nat_lt r.resends MAX_RESENDS ≡ b → (timeout_outcome r phase).after.next ≡ r.next
timeout_next r Receiving true e = rw e refl
timeout_next r Receiving false e = rw e refl
timeout_next r Recovering true e = rw e refl
timeout_next r Recovering false e = rw e refl
timeout_next r (Completing status) true e = rw e refl
timeout_next r (Completing status) false e = rw e refl
timeout_next r Ended b e = refl

tick_next_by : (r : Receiver) (now : ℕ) (b : Bool) → nat_le (r.active + TIMEOUT) now ≡ b → (tick_outcome r now).after.next ≡ r.next
tick_next_by r now true e = rw e (timeout_next (active_at now r) r.phase (nat_lt r.resends MAX_RESENDS) refl)
tick_next_by r now false e = rw e refl

-- time moves nothing
pub tick_next : (r : Receiver) (now : ℕ) → (tick_outcome r now).after.next ≡ r.next
tick_next r now = tick_next_by r now (nat_le (r.active + TIMEOUT) now) refl

timeout_closed : (r : Receiver) (phase : Phase) (b : Bool) → r.phase ≡ phase → nat_lt r.resends MAX_RESENDS ≡ b → is_open phase ≡ false →
    is_open (timeout_outcome r phase).after.phase ≡ false
timeout_closed r Receiving b same e closed = cc
timeout_closed r Recovering b same e closed = cc
timeout_closed r (Completing status) true same e closed = rw e (ap is_open same)
timeout_closed r (Completing status) false same e closed = rw e refl
timeout_closed r Ended b same e closed = ap is_open same

tick_closed_by : (r : Receiver) (now : ℕ) (b : Bool) → nat_le (r.active + TIMEOUT) now ≡ b → is_open r.phase ≡ false → is_open (tick_outcome r now).after.phase ≡ false
tick_closed_by r now true e closed = rw e (timeout_closed (active_at now r) r.phase (nat_lt r.resends MAX_RESENDS) refl refl closed)
tick_closed_by r now false e closed = rw e closed

-- a receiver that takes no more pieces never does again
pub tick_closed : (r : Receiver) (now : ℕ) → is_open r.phase ≡ false → is_open (tick_outcome r now).after.phase ≡ false
tick_closed r now closed = tick_closed_by r now (nat_le (r.active + TIMEOUT) now) refl closed

pub ack_closed : (r : Receiver) → is_open r.phase ≡ false → is_open (acknowledged r).phase ≡ false
ack_closed r closed = by_phase r.phase closed
  where
    by_phase : (phase : Phase) → is_open phase ≡ false → is_open (phase_after_ack phase) ≡ false
    by_phase Receiving e = e
    by_phase Recovering e = e
    by_phase (Completing status) e = refl
    by_phase Ended e = e

pub closed_ignores : (r : Receiver) (offset size : ℕ) (last : Bool) (now : ℕ) → is_open r.phase ≡ false →
    piece_outcome (active_at now r) offset size last ≡ ignoring (active_at now r)
closed_ignores r offset size last now closed = rw closed refl
