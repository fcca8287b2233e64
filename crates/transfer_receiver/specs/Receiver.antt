-- What a receiver is, and what it asks of the sender.
use Rattle.std.specs.Prelude.{ℕ, ◌+◌, ◌*◌, ◌/◌, ◌≤◌, min, max, if◌then◌else◌, Bool, true, false}
use Rattle.transfer_base.specs.declared.Ask.{Ask}
use Rattle.transfer_base.specs.declared.limits.TheConstants.{MAX_CHUNK, MAX_RESOURCE, MAX_WINDOW}
use Rattle.transfer_receiver.specs.declared.receiver.TheConstants.{MAX_RESENDS}
use Rattle.transfer_receiver.specs.declared.phase.Phase.{Phase}
use Rattle.transfer_receiver.specs.declared.phase.Phase.TheVariants.{Receiving}

-- Offsets and sizes are in bytes, moments in milliseconds.
pub record Receiver : Type 0 where
  -- the first byte that it lacks: all before it is kept
  pub next : ℕ
  -- the end of the bytes that it has asked for
  pub window_end : ℕ
  -- the chunks of a window
  pub span : ℕ
  -- the bytes of a chunk
  pub chunk : ℕ
  -- whether its last ask, but the first parameters, was a retransmission
  pub shrunk : Bool
  pub phase : Phase
  -- the moment of the last activity
  pub active : ℕ
  -- how often it has sent its parameters or its end again, in a row
  pub resends : ℕ

abbrev pub new_receiver : ℕ → ℕ → ℕ → ℕ → Receiver
new_receiver offset span chunk now =
    record { next = offset; window_end = offset + span * chunk; span = span; chunk = chunk; shrunk = false; phase = Receiving; active = now; resends = 0 }

-- what stands of every receiver
pub record IsReceiver (r : Receiver) : Type 0 where
  pub chunk_low : 1 ≤ r.chunk
  pub chunk_high : r.chunk ≤ MAX_CHUNK
  pub span_low : 1 ≤ r.span
  pub span_high : r.span ≤ MAX_WINDOW
  pub next_high : r.next ≤ MAX_RESOURCE
  pub window_low : r.next ≤ r.window_end
  pub window_high : r.window_end ≤ MAX_RESOURCE + MAX_WINDOW * MAX_CHUNK
  pub resends_high : r.resends ≤ MAX_RESENDS

-- The chunks of the window that it asks for next. A retransmission halves the span, at least to 1. To go on doubles it, at
-- most to 64, where no retransmission was asked since it went on before, or since the beginning; else it leaves it.
abbrev pub span_of_ask : Bool → Receiver → ℕ
span_of_ask true r = max 1 (r.span / 2)
span_of_ask false r = if r.shrunk then r.span else min 64 (2 * r.span)

-- the receiver once it has asked: a window of so many chunks from its next byte on
abbrev pub asking : Bool → Receiver → Receiver
asking again r = record r { span = span_of_ask again r; shrunk = again; window_end = r.next + span_of_ask again r * r.chunk }

-- the ask that stands
abbrev pub ask_of : Bool → Receiver → Ask
ask_of again r = record { again = again; offset = r.next; window_end = r.window_end; max_chunk = r.chunk }

-- the ask that begins the data phase: it leaves the span
abbrev pub first_ask : Receiver → Ask
first_ask r = record { again = true; offset = r.next; window_end = r.next + r.span * r.chunk; max_chunk = r.chunk }
