-- A client that has asked, and waits for an answer.
use Rattle.std.specs.Prelude.{ℕ, ◌+◌, nat_lt, nat_le, Bool, if◌then◌else◌, Option, Some, None}
use Rattle.rpc_ids.specs.declared.Status.{Status}
use Rattle.rpc_ids.specs.declared.Status.TheVariants.{Aborted}
use Rattle.transfer_base.specs.declared.limits.TheConstants.{TIMEOUT}
use Rattle.transfer_receiver.specs.declared.receiver.TheConstants.{MAX_RESENDS}
use Rattle.transfer_receiver.specs.Answers.{is_okay}
use Rattle.transfer_client.specs.declared.stages.Wait.{Wait}

abbrev pub new_wait : ℕ → Wait
new_wait now = record { active = now; resends = 0 }

-- a chunk of the session came
abbrev pub touched : Wait → ℕ → Wait
touched w now = record w { active = now }

-- it has asked again
abbrev pub again : Wait → ℕ → Wait
again w now = record { active = now; resends = w.resends + 1 }

-- nothing came since this moment, and that is so long that a timeout comes
abbrev pub is_late_since : ℕ → ℕ → Bool
is_late_since active now = nat_le (active + TIMEOUT) now

abbrev pub is_late : Wait → ℕ → Bool
is_late w now = is_late_since w.active now

-- it may ask again
abbrev pub has_resends : Wait → Bool
has_resends w = nat_lt w.resends MAX_RESENDS

abbrev pub again_if : Wait → ℕ → Option Wait
again_if w now = if has_resends w then Some (again w now) else None

-- how a transfer ends whose call has ended so: it isn't whole, so it can't have ended well
abbrev pub end_by_call : Status → Status
end_by_call status = if is_okay status then Aborted else status
