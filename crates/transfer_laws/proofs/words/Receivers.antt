-- A receiver within its bounds stays within them, and what it says fits chunks.
use Rattle.std.proofs.Common.{◌≡◌, ℕ, ◌+◌, ◌*◌, ◌/◌, ◌<◌, ◌≤◌, ◌==◌, ◌&&◌, ◌^◌, not, min, max, nat_lt, nat_le, Bool, true, false, if◌then◌else◌, List, [], ◌∷◌, ◌++◌, length, Some, None, refl, arith}
use Rattle.std.proofs.lemmas.Bool.Decides.{nat_tests}
use Rattle.std.proofs.lemmas.Nat.{mul-le}
use Rattle.std.specs.List.{AllByRecursion}
use Rattle.rpc_ids.specs.declared.Status.{Status}
use Rattle.rpc_ids.specs.declared.Status.TheVariants.{Okay, Internal, OutOfRange, DeadlineExceeded}
use Rattle.transfer_base.specs.declared.limits.TheConstants.{MAX_CHUNK, MAX_RESOURCE, MAX_WINDOW, TIMEOUT}
use Rattle.transfer_receiver.specs.declared.receiver.TheConstants.{MAX_RESENDS}
use Rattle.transfer_receiver.specs.declared.answers.Received.TheVariants.{Kept, Again}
use Rattle.transfer_receiver.specs.declared.answers.Ticked.TheVariants.{Resend, ResendEnd, Over}
use Rattle.transfer_receiver.specs.declared.phase.Phase.{Phase}
use Rattle.transfer_receiver.specs.declared.phase.Phase.TheVariants as phase
use Rattle.transfer_receiver.specs.Phase.{is_open, is_recovering}
use Rattle.transfer_receiver.specs.Answers.{is_okay}
use Rattle.transfer_receiver.specs.Receiver.{Receiver, ask_of, asking, first_ask, new_receiver, span_of_ask}
use Rattle.transfer_receiver.specs.PieceRules.{PieceOutcome, active_at, asking_again, ending, going_on, ignoring, is_half_used, keeping, open_outcome, piece_outcome, taking}
use Rattle.transfer_receiver.specs.TickRules.{TickOutcome, staying, tick_outcome, timeout_outcome}
use Rattle.transfer_words.specs.Word.{completion}
use Rattle.transfer_words.specs.Spoken.{FitsAsk}
use Rattle.transfer_words.specs.Saying.{Saying, says, appends, commits, leaves}
use Rattle.transfer_words.specs.CoreAnswers.{of_piece, of_tick}
use Rattle.transfer_laws.specs.words.Said.{FitsSaying}

-- its next byte, its window and its chunks are as large as they may be, or smaller
pub record IsBounded (r : Receiver) : Type 0 where
  pub next : r.next ≤ MAX_RESOURCE
  pub span : r.span ≤ MAX_WINDOW
  pub chunk : r.chunk ≤ MAX_CHUNK

abbrev pub AllFit : List Saying → Type 0
AllFit ss = AllByRecursion FitsSaying ss

window_small : (span chunk next : ℕ) → next ≤ 16777216 → span ≤ 64 → chunk ≤ 1024 → next + span * chunk < 2 ^ 32
window_small span chunk next n s c = omega (arith, n, mul-le span chunk 64 1024 s c)

halved : (span : ℕ) → span ≤ 64 → max 1 (span / 2) ≤ 64
halved span s = omega (arith, s)

doubled_by : (b : Bool) (span : ℕ) → span ≤ 64 → (if b then span else min 64 (2 * span)) ≤ 64
doubled_by true span s = s
doubled_by false span s = omega arith

span_small : (again : Bool) (r : Receiver) → r.span ≤ MAX_WINDOW → span_of_ask again r ≤ MAX_WINDOW
span_small true r s = halved r.span s
span_small false r s = doubled_by r.shrunk r.span s

asking_bounded : (again : Bool) (r : Receiver) → IsBounded r → IsBounded (asking again r)
asking_bounded again r is = record { next = is.next; span = span_small again r is.span; chunk = is.chunk }

fits_by : (next span chunk : ℕ) → next ≤ 16777216 → span ≤ 64 → chunk ≤ 1024 → (next < 2 ^ 64) × (next + span * chunk < 2 ^ 32) × (chunk < 2 ^ 32)
fits_by next span chunk n s c = (omega (arith, n), window_small span chunk next n s c, omega (arith, c))

asked_fits : (again b : Bool) (r : Receiver) → IsBounded r → FitsAsk (ask_of b (asking again r))
asked_fits again b r is = fits_by r.next (span_of_ask again r) r.chunk is.next (span_small again r is.span) is.chunk

pub first_fits : (r : Receiver) → IsBounded r → FitsAsk (first_ask r)
first_fits r is = fits_by r.next r.span r.chunk is.next is.span is.chunk

pub new_bounded : (offset window chunk now : ℕ) → offset ≤ MAX_RESOURCE → window ≤ MAX_WINDOW → chunk ≤ MAX_CHUNK → IsBounded (new_receiver offset window chunk now)
new_bounded offset window chunk now o w c = record { next = o; span = w; chunk = c }

-- A piece.
module _ (bytes : List ℕ) where
  abbrev PieceDone : PieceOutcome → Type 0
  PieceDone t = IsBounded t.after × AllFit (of_piece bytes t.answer)

  ends_by : (status : Status) (ok empty : Bool)
      → AllFit ((if ok then (if empty then [] else appends bytes ∷ []) ++ commits ∷ [] else leaves ∷ []) ++ says (completion status) ∷ [])
  ends_by status true true = (tt, (tt, tt))
  ends_by status true false = (tt, (tt, (tt, tt)))
  ends_by status false empty = (tt, (tt, tt))

  ends : (r : Receiver) (status : Status) → IsBounded r → PieceDone (ending r status)
  ends r status is = (record { next = is.next; span = is.span; chunk = is.chunk }, ends_by status (is_okay status) (length bytes == 0))

  again_by : (r : Receiver) (b : Bool) → IsBounded r
      → PieceDone (if b then ignoring r else record { after = record (asking true r) { phase = phase.Recovering }; answer = Again (ask_of true (asking true r)) })
  again_by r true is = (is, tt)
  again_by r false is = (record { next = is.next; span = span_small true r is.span; chunk = is.chunk }, (asked_fits true true r is, tt))

  going_by : (r : Receiver) (b : Bool) → IsBounded r
      → PieceDone (if b then record { after = asking false r; answer = Kept (Some (ask_of false (asking false r))) } else record { after = r; answer = Kept None })
  going_by r true is = (asking_bounded false r is, (tt, (asked_fits false false r is, tt)))
  going_by r false is = (is, (tt, tt))

  last_by : (r : Receiver) (end : ℕ) (last : Bool) → IsBounded (keeping r end) → PieceDone (if last then ending (keeping r end) Okay else going_on (keeping r end))
  last_by r end true is = ends (keeping r end) Okay is
  last_by r end false is = going_by (keeping r end) (is_half_used (keeping r end)) is

  range_by : (r : Receiver) (end : ℕ) (b last : Bool) → nat_lt MAX_RESOURCE end ≡ b → IsBounded r
      → PieceDone (if b then ending r OutOfRange else if last then ending (keeping r end) Okay else going_on (keeping r end))
  range_by r end true last e is = ends r OutOfRange is
  range_by r end false last e is = last_by r end last (record { next = not_past end e; span = is.span; chunk = is.chunk })
    where
      not_past : (n : ℕ) → nat_lt MAX_RESOURCE n ≡ false → n ≤ MAX_RESOURCE
      not_past n e = grind (arith, nat_tests)

  window_by : (r : Receiver) (end : ℕ) (b last : Bool) → IsBounded r
      → PieceDone (if b then ending r Internal else if nat_lt MAX_RESOURCE end then ending r OutOfRange else if last then ending (keeping r end) Okay else going_on (keeping r end))
  window_by r end true last is = ends r Internal is
  window_by r end false last is = range_by r end (nat_lt MAX_RESOURCE end) last refl is

  past_by : (r : Receiver) (end : ℕ) (b last : Bool) → IsBounded r → PieceDone (if b then asking_again r else taking r end last)
  past_by r end true last is = again_by r (is_recovering r.phase) is
  past_by r end false last is = window_by r end (nat_lt r.window_end end) last is

  empty_by : (r : Receiver) (offset size : ℕ) (b last : Bool) → IsBounded r
      → PieceDone (if b then ignoring r else if nat_lt r.next offset then asking_again r else taking r (offset + size) last)
  empty_by r offset size true last is = (is, tt)
  empty_by r offset size false last is = past_by r (offset + size) (nat_lt r.next offset) last is

  before_by : (r : Receiver) (offset size : ℕ) (b last : Bool) → IsBounded r
      → PieceDone (if b then ignoring r else if (size == 0) && not last then ignoring r else if nat_lt r.next offset then asking_again r else taking r (offset + size) last)
  before_by r offset size true last is = (is, tt)
  before_by r offset size false last is = empty_by r offset size ((size == 0) && not last) last is

  open_by : (r : Receiver) (offset size : ℕ) (b last : Bool) → IsBounded r → PieceDone (if b then open_outcome r offset size last else ignoring r)
  open_by r offset size true last is = before_by r offset size (nat_lt offset r.next) last is
  open_by r offset size false last is = (is, tt)

  pub piece_done : (r : Receiver) (offset size now : ℕ) (last : Bool) → IsBounded r → PieceDone (piece_outcome (active_at now r) offset size last)
  piece_done r offset size now last is =
      open_by (active_at now r) offset size (is_open r.phase) last (record { next = is.next; span = is.span; chunk = is.chunk })

-- A tick.
abbrev TickDone : Bool → TickOutcome → Type 0
TickDone going t = IsBounded t.after × AllFit (of_tick going t.answer)

gives_up : (going : Bool) (r : Receiver) (status : Status) → IsBounded r → TickDone going (record { after = record r { phase = phase.Ended }; answer = Over status })
gives_up true r status is = (record { next = is.next; span = is.span; chunk = is.chunk }, (tt, (tt, tt)))
gives_up false r status is = (record { next = is.next; span = is.span; chunk = is.chunk }, tt)

asks_by : (going : Bool) (r : Receiver) (b : Bool) → IsBounded r
    → TickDone going (if b then record { after = record (asking true r) { resends = r.resends + 1 }; answer = Resend (ask_of true (asking true r)) } else record { after = record r { phase = phase.Ended }; answer = Over DeadlineExceeded })
asks_by going r true is = (record { next = is.next; span = span_small true r is.span; chunk = is.chunk }, (asked_fits true true r is, tt))
asks_by going r false is = gives_up going r DeadlineExceeded is

end_by : (going : Bool) (r : Receiver) (status : Status) (b : Bool) → IsBounded r
    → TickDone going (if b then record { after = record r { resends = r.resends + 1 }; answer = ResendEnd status } else record { after = record r { phase = phase.Ended }; answer = Over status })
end_by going r status true is = (record { next = is.next; span = is.span; chunk = is.chunk }, (tt, tt))
end_by going r status false is = gives_up going r status is

timed : (going : Bool) (r : Receiver) (p : Phase) → IsBounded r → TickDone going (timeout_outcome r p)
timed going r phase.Receiving is = asks_by going r (nat_lt r.resends MAX_RESENDS) is
timed going r phase.Recovering is = asks_by going r (nat_lt r.resends MAX_RESENDS) is
timed going r (phase.Completing status) is = end_by going r status (nat_lt r.resends MAX_RESENDS) is
timed going r phase.Ended is = (is, tt)

tick_by : (going : Bool) (r : Receiver) (now : ℕ) (b : Bool) → IsBounded r → TickDone going (if b then timeout_outcome (active_at now r) r.phase else staying r)
tick_by going r now true is = timed going (active_at now r) r.phase (record { next = is.next; span = is.span; chunk = is.chunk })
tick_by going r now false is = (is, tt)

pub tick_done : (going : Bool) (r : Receiver) (now : ℕ) → IsBounded r → TickDone going (tick_outcome r now)
tick_done going r now is = tick_by going r now (nat_le (r.active + TIMEOUT) now) is
