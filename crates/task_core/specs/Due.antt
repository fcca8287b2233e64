-- Which tasks are due, by what happened to them.
use Rattle.std.specs.Prelude.{◌≡◌, ◌==◌, ℕ, ◌<◌, ◌%◌, ◌^◌, Bool, true, false, not, ◌||◌, ◌&&◌, List, [], ◌∷◌, Option, Some, None, is_none, nat_le}
use Rattle.rpc_ids.specs.declared.status.Status.{Status}
use Rattle.task_core.specs.declared.mail.Mail.{Mail}
use Rattle.task_core.specs.Visit.{Ending, ends, goes_on, is_short_of_memory, Visit}
use Rattle.task_core.specs.Log.{Step, is_added, last_poll, is_woken, mail_of, last_heard, poll_heard, moment_of}

-- the status with which a poll ended its task
abbrev pub status_by : Ending → Option Status
status_by (ends status) = Some status
status_by goes_on = None
status_by is_short_of_memory = None

abbrev pub ended_by : Option (Visit × Bool) → Option Status
ended_by None = None
ended_by (Some poll) = status_by poll.0.ending

-- whether the last poll was refused for memory, or there was none
abbrev pub is_owed : Option (Visit × Bool) → Bool
is_owed None = true
is_owed (Some poll) = poll.1

-- until when the last poll sleeps
abbrev pub alarm_by : Option (Visit × Bool) → Option ℕ
alarm_by None = None
alarm_by (Some poll) = poll.0.alarm

-- whether the last poll waits for mail
abbrev pub awaits_by : Option (Visit × Bool) → Bool
awaits_by None = false
awaits_by (Some poll) = poll.0.waits_mail

-- the moment to wait for has come
abbrev pub has_come : ℕ → Option ℕ → Bool
has_come now None = false
has_come now (Some at) = nat_le at now

abbrev pub has_mail : List Mail → Bool
has_mail [] = false
has_mail (mail ∷ mails) = true

module _ {T : Type 0} where
  -- the status with which the task ended
  abbrev pub result_of : List (Step T) → ℕ → Option Status
  result_of log k = ended_by (last_poll log k)

  -- the task was added, and hasn't ended
  abbrev pub lives : List (Step T) → ℕ → Bool
  lives log k = is_added log k && is_none (result_of log k)

  -- it is new, its last poll was refused for memory, or it was woken since
  abbrev pub is_called : List (Step T) → ℕ → Bool
  is_called log k = is_owed (last_poll log k) || is_woken log k

  -- its time has come
  abbrev pub is_time : List (Step T) → ℕ → Bool
  is_time log k = has_come (moment_of log) (alarm_by (last_poll log k))

  -- another thread has woken it: its word isn't the one that its last poll knew
  abbrev pub is_rung : List (Step T) → ℕ → Bool
  is_rung log k = not (last_heard log k % 2 ^ 64 == poll_heard log k % 2 ^ 64)

  -- it has mail and waits for mail
  abbrev pub has_awaited : List (Step T) → ℕ → Bool
  has_awaited log k = awaits_by (last_poll log k) && has_mail (mail_of log k)

  -- THE DEFINITION OF A TASK THAT IS DUE
  abbrev pub is_due : List (Step T) → ℕ → Bool
  is_due log k = lives log k && (((is_called log k || is_time log k) || is_rung log k) || has_awaited log k)

  -- it is due, and no task with a lower key is
  abbrev pub IsFirstDue : List (Step T) → ℕ → Type 0
  IsFirstDue log k = (is_due log k ≡ true) × ((j : ℕ) → j < k → is_due log j ≡ false)
