-- What a sender is.
use Rattle.std.specs.Prelude.{◌≡◌, ℕ, ◌+◌, ◌==◌, ◌≤◌, List, length, nat_le, if◌then◌else◌, Option, None, Some}
use Rattle.rpc_ids.specs.declared.Status.{Status}
use Rattle.rpc_ids.specs.declared.Status.TheVariants.{DeadlineExceeded}
use Rattle.transfer_base.specs.declared.limits.TheConstants.{MAX_RESOURCE, TIMEOUT}
use Rattle.transfer_sender.specs.declared.sender.TheConstants.{MAX_TIMEOUTS}

-- Offsets and sizes are in bytes, moments in milliseconds.
pub record Sender : Type 0 where
  -- the whole resource
  pub bytes : List ℕ
  -- the next byte that it sends
  pub position : ℕ
  -- the moment of the last activity
  pub active : ℕ
  -- the timeouts since the last chunk came
  pub timeouts : ℕ
  -- how it ended, if it did
  pub ended : Option Status

abbrev pub new_sender : List ℕ → ℕ → ℕ → Sender
new_sender bytes offset now = record { bytes = bytes; position = offset; active = now; timeouts = 0; ended = None }

-- what stands of every sender
pub record IsSender (s : Sender) : Type 0 where
  pub size : length s.bytes ≤ MAX_RESOURCE
  pub within : s.position ≤ length s.bytes
  -- while it goes on, so few timeouts came that one more is counted
  pub few_timeouts : s.ended ≡ None → s.timeouts + 1 ≤ MAX_TIMEOUTS

-- a chunk of its session came
abbrev pub touched : Sender → ℕ → Sender
touched s now = record s { active = now; timeouts = 0 }

-- the end that so many timeouts in a row make
abbrev pub end_by_timeouts : ℕ → Option Status
end_by_timeouts timeouts = if timeouts == MAX_TIMEOUTS then Some DeadlineExceeded else None

-- a timeout comes where nothing did for so long, and is itself activity
abbrev pub ticked : Sender → ℕ → Sender
ticked s now =
    if nat_le (s.active + TIMEOUT) now then record s { active = now; timeouts = s.timeouts + 1; ended = end_by_timeouts (s.timeouts + 1) }
    else s

-- the first end stands
abbrev pub first_end : Option Status → Status → Option Status
first_end None status = Some status
first_end (Some first) status = Some first

-- the receiver has told how the transfer ended
abbrev pub completed : Sender → Status → Sender
completed s status = record s { ended = first_end s.ended status }
