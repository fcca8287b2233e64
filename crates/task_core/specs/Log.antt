-- What happened to a dispatcher's tasks: a list of steps, the newest first, and what it tells of each task.
use Rattle.std.specs.Prelude.{◌==◌, ℕ, ◌+◌, Bool, false, ◌||◌, List, [], ◌∷◌, ◌++◌, drop, Option, Some, None, if◌then◌else◌}
use Rattle.rpc_handlers.specs.declared.answer.Out.{Out}
use Rattle.task_core.specs.declared.bells.view.Look.{Look}
use Rattle.task_core.specs.declared.mail.Mail.{Mail}
use Rattle.task_core.specs.Context.{by_task}
use Rattle.task_core.specs.Visit.{Visit}

-- A task was added, with its key. Mail was posted to it, or it was woken. The time went on to a moment. The word of a
-- task's wakes was loaded, when so many had been counted in all. A task was polled, which left it as this; `short`
-- where memory was wanting, in the poll or for its timer. An item of what tasks said was taken out.
pub data Step (T : Type 0) : Type 0 where
  added : (key : ℕ) (task : T) → Step T
  posted : (key : ℕ) (mail : Mail) → Step T
  woken : (key : ℕ) → Step T
  advanced : (moment : ℕ) → Step T
  heard : (key total : ℕ) → Step T
  polled : (key : ℕ) (visit : Visit) (short : Bool) (task : T) → Step T
  took : Step T

module _ {T : Type 0} where
  -- whether the key was given to a task
  abbrev pub is_added : List (Step T) → ℕ → Bool
  is_added [] k = false
  is_added (added key task ∷ log) k = (key == k) || is_added log k
  is_added (posted key mail ∷ log) k = is_added log k
  is_added (woken key ∷ log) k = is_added log k
  is_added (advanced moment ∷ log) k = is_added log k
  is_added (heard key total ∷ log) k = is_added log k
  is_added (polled key visit short task ∷ log) k = is_added log k
  is_added (took ∷ log) k = is_added log k

  -- how many tasks were added
  abbrev pub added_count : List (Step T) → ℕ
  added_count [] = 0
  added_count (added key task ∷ log) = added_count log + 1
  added_count (posted key mail ∷ log) = added_count log
  added_count (woken key ∷ log) = added_count log
  added_count (advanced moment ∷ log) = added_count log
  added_count (heard key total ∷ log) = added_count log
  added_count (polled key visit short task ∷ log) = added_count log
  added_count (took ∷ log) = added_count log

  -- the task, as its last poll left it
  abbrev pub task_of : List (Step T) → ℕ → Option T
  task_of [] k = None
  task_of (added key task ∷ log) k = if key == k then Some task else task_of log k
  task_of (posted key mail ∷ log) k = task_of log k
  task_of (woken key ∷ log) k = task_of log k
  task_of (advanced moment ∷ log) k = task_of log k
  task_of (heard key total ∷ log) k = task_of log k
  task_of (polled key visit short task ∷ log) k = if key == k then Some task else task_of log k
  task_of (took ∷ log) k = task_of log k

  -- its last poll, and whether memory was wanting there
  abbrev pub last_poll : List (Step T) → ℕ → Option (Visit × Bool)
  last_poll [] k = None
  last_poll (added key task ∷ log) k = if key == k then None else last_poll log k
  last_poll (posted key mail ∷ log) k = last_poll log k
  last_poll (woken key ∷ log) k = last_poll log k
  last_poll (advanced moment ∷ log) k = last_poll log k
  last_poll (heard key total ∷ log) k = last_poll log k
  last_poll (polled key visit short task ∷ log) k = if key == k then Some (visit, short) else last_poll log k
  last_poll (took ∷ log) k = last_poll log k

  -- whether it was woken since its last poll
  abbrev pub is_woken : List (Step T) → ℕ → Bool
  is_woken [] k = false
  is_woken (added key task ∷ log) k = if key == k then false else is_woken log k
  is_woken (posted key mail ∷ log) k = is_woken log k
  is_woken (woken key ∷ log) k = (key == k) || is_woken log k
  is_woken (advanced moment ∷ log) k = is_woken log k
  is_woken (heard key total ∷ log) k = is_woken log k
  is_woken (polled key visit short task ∷ log) k = if key == k then false else is_woken log k
  is_woken (took ∷ log) k = is_woken log k

  -- the mail that it has: what its last poll left, and what was posted since
  abbrev pub mail_of : List (Step T) → ℕ → List Mail
  mail_of [] k = []
  mail_of (added key task ∷ log) k = if key == k then [] else mail_of log k
  mail_of (posted key mail ∷ log) k = if key == k then mail_of log k ++ mail ∷ [] else mail_of log k
  mail_of (woken key ∷ log) k = mail_of log k
  mail_of (advanced moment ∷ log) k = mail_of log k
  mail_of (heard key total ∷ log) k = mail_of log k
  mail_of (polled key visit short task ∷ log) k = if key == k then visit.left else mail_of log k
  mail_of (took ∷ log) k = mail_of log k

  -- how many wakes of other threads were counted for it when its word was loaded last
  abbrev pub last_heard : List (Step T) → ℕ → ℕ
  last_heard [] k = 0
  last_heard (added key task ∷ log) k = if key == k then 0 else last_heard log k
  last_heard (posted key mail ∷ log) k = last_heard log k
  last_heard (woken key ∷ log) k = last_heard log k
  last_heard (advanced moment ∷ log) k = last_heard log k
  last_heard (heard key total ∷ log) k = if key == k then total else last_heard log k
  last_heard (polled key visit short task ∷ log) k = last_heard log k
  last_heard (took ∷ log) k = last_heard log k

  -- the same, at its last poll
  abbrev pub poll_heard : List (Step T) → ℕ → ℕ
  poll_heard [] k = 0
  poll_heard (added key task ∷ log) k = if key == k then 0 else poll_heard log k
  poll_heard (posted key mail ∷ log) k = poll_heard log k
  poll_heard (woken key ∷ log) k = poll_heard log k
  poll_heard (advanced moment ∷ log) k = poll_heard log k
  poll_heard (heard key total ∷ log) k = poll_heard log k
  poll_heard (polled key visit short task ∷ log) k = if key == k then last_heard log k else poll_heard log k
  poll_heard (took ∷ log) k = poll_heard log k

  -- the loads of all words, the newest first
  abbrev pub looks_of : List (Step T) → List Look
  looks_of [] = []
  looks_of (added key task ∷ log) = looks_of log
  looks_of (posted key mail ∷ log) = looks_of log
  looks_of (woken key ∷ log) = looks_of log
  looks_of (advanced moment ∷ log) = looks_of log
  looks_of (heard key total ∷ log) = record { key = key; total = total } ∷ looks_of log
  looks_of (polled key visit short task ∷ log) = looks_of log
  looks_of (took ∷ log) = looks_of log

  -- the moment that it is
  abbrev pub moment_of : List (Step T) → ℕ
  moment_of [] = 0
  moment_of (added key task ∷ log) = moment_of log
  moment_of (posted key mail ∷ log) = moment_of log
  moment_of (woken key ∷ log) = moment_of log
  moment_of (advanced moment ∷ log) = moment
  moment_of (heard key total ∷ log) = moment_of log
  moment_of (polled key visit short task ∷ log) = moment_of log
  moment_of (took ∷ log) = moment_of log

  -- what tasks said and nobody has taken out, with their keys, the oldest first
  abbrev pub outs_of : List (Step T) → List (ℕ × Out)
  outs_of [] = []
  outs_of (added key task ∷ log) = outs_of log
  outs_of (posted key mail ∷ log) = outs_of log
  outs_of (woken key ∷ log) = outs_of log
  outs_of (advanced moment ∷ log) = outs_of log
  outs_of (heard key total ∷ log) = outs_of log
  outs_of (polled key visit short task ∷ log) = outs_of log ++ by_task key visit.said
  outs_of (took ∷ log) = drop 1 (outs_of log)
