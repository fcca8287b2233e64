-- What contracts see of a dispatcher, and the steps for which it stands.
use Rattle.std.specs.Prelude.{◌≡◌, ℕ, ◌||◌, ◌%◌, ◌^◌, Bool, true, false, List, ◌∷◌, Some, None, is_some}
use Rattle.slab.specs.Slab.{Slab, get, slab_len}
use Rattle.rpc_handlers.specs.declared.answer.Out.{Out}
use Rattle.task_core.specs.declared.place.Place.{Place}
use Rattle.task_core.specs.declared.timers.Timers.{Timers}
use Rattle.task_core.specs.Log.{Step, is_added, added_count, task_of, last_poll, mail_of, last_heard, poll_heard, moment_of, outs_of}
use Rattle.task_core.specs.Due.{alarm_by, awaits_by, result_of, is_called, is_time}
use Rattle.task_core.specs.Timers.{has_timer}

-- the moment, the tasks in their places, and what they said, each item with its task's key
pub record Tasks (T : Type 0) : Type 0 where
  pub moment : ℕ
  pub places : Slab (Place T)
  pub outs : List (ℕ × Out)

module _ {T : Type 0} where
  -- the key was given to a task
  abbrev pub has_key : Tasks T → ℕ → Bool
  has_key tasks key = is_some (get tasks.places key)

  abbrev pub HasKey : Tasks T → ℕ → Type 0
  HasKey tasks key = has_key tasks key ≡ true

  -- the key of the task that is added next
  abbrev pub next_key : Tasks T → ℕ
  next_key tasks = tasks.places.vacant_key

  -- how many tasks were added
  abbrev pub task_count : Tasks T → ℕ
  task_count tasks = slab_len tasks.places

  -- each task that sleeps has its timer
  abbrev pub HasTimers : Slab (Place T) → Timers → Type 0
  HasTimers places timers = (key at : ℕ) (p : Place T) → get places key ≡ Some p → p.alarm ≡ Some at → has_timer timers at key ≡ true

  -- what the place of a task that lives tells of it
  pub record Living (p : Place T) (log : List (Step T)) (key : ℕ) : Type 0 where
    pub mail : mail_of log key ≡ p.mail.items
    pub marked : (is_called log key || is_time log key) ≡ p.marked
    pub alarm : p.marked ≡ false → alarm_by (last_poll log key) ≡ p.alarm
    pub awaits : awaits_by (last_poll log key) ≡ p.waits_mail
    pub latest : last_heard log key % 2 ^ 64 ≡ p.latest
    pub heard : poll_heard log key % 2 ^ 64 ≡ p.heard

  -- what a place tells of its task
  pub record Tells (p : Place T) (log : List (Step T)) (key : ℕ) : Type 0 where
    pub task : task_of log key ≡ Some p.task
    pub result : result_of log key ≡ p.result
    pub living : p.result ≡ None → Living p log key

  -- the dispatcher is as these steps leave it
  pub record StandsFor (tasks : Tasks T) (log : List (Step T)) : Type 0 where
    pub moment : moment_of log ≡ tasks.moment
    pub outs : outs_of log ≡ tasks.outs
    pub count : added_count log ≡ slab_len tasks.places
    pub is_added : (key : ℕ) → is_added log key ≡ is_some (get tasks.places key)
    pub tells : (key : ℕ) (p : Place T) → get tasks.places key ≡ Some p → Tells p log key

  -- the moment and the keys are the same
  pub record Keeps (old new : Tasks T) : Type 0 where
    pub moment : new.moment ≡ old.moment
    pub keys : (key : ℕ) → has_key new key ≡ has_key old key

  -- what two dispatchers stand for is the same, but for the step
  abbrev pub Adds : Tasks T → Tasks T → Step T → Type 0
  Adds old new step = (log : List (Step T)) → StandsFor old log → StandsFor new (step ∷ log)

  abbrev pub AddsNothing : Tasks T → Tasks T → Type 0
  AddsNothing old new = (log : List (Step T)) → StandsFor old log → StandsFor new log
