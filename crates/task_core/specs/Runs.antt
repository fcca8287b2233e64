-- What a run of the dispatcher does: turns, each with one poll of the first task that is due.
use Rattle.std.specs.Prelude.{◌≡◌, ℕ, zero, suc, ◌<◌, ◌≤◌, Bool, true, false, List, ◌∷◌, Some, Result, Ok, Err}
use Rattle.std.specs.declared.alloc.AllocError.{AllocError}
use Rattle.task_core.specs.declared.stop.Stop.{Stop}
use Rattle.task_core.specs.declared.stop.Stop.TheVariants.{AllDone, Stalled, Budget}
use Rattle.task_core.specs.Visit.{is_short_of_memory, Visit}
use Rattle.task_core.specs.Log.{Step, polled, task_of, mail_of, moment_of}
use Rattle.task_core.specs.Due.{lives, is_due, IsFirstDue}
use Rattle.task_core.specs.Tasks.{Tasks, StandsFor}

module _ {T : Type 0} (polls : T → Visit → T → Type 0) where
  -- one turn: the first task that is due is polled, with the mail that it has, at the moment that it is
  pub record Turn (log new : List (Step T)) (short : Bool) : Type 0 where
    pub key : ℕ
    pub first : IsFirstDue log key
    pub before : T
    pub was : task_of log key ≡ Some before
    pub visit : Visit
    pub after : T
    pub did : polls before visit after
    pub moment : visit.moment ≡ moment_of log
    pub mail : visit.mail ≡ mail_of log key
    -- a poll that found too little memory is told as one
    pub owed : visit.ending ≡ is_short_of_memory → short ≡ true
    pub adds : new ≡ polled key visit short after ∷ log

  -- so many turns, none of which found too little memory
  abbrev pub Turns : ℕ → List (Step T) → List (Step T) → Type 0
  Turns zero log new = new ≡ log
  Turns (suc n) log new = (mid : List (Step T)) × Turns n log mid × Turn mid new false

-- why a run stops where no task is due, by the test of which tasks live
abbrev pub IsIdle : (ℕ → Bool) → Stop → Type 0
IsIdle is_alive AllDone = (k : ℕ) → is_alive k ≡ false
IsIdle is_alive Stalled = (k : ℕ) × (is_alive k ≡ true)
IsIdle is_alive Budget = ⊥

module _ {T : Type 0} where
  -- why a run stops behind n polls: no task lives; one lives and none is due; the budget is used up, and one is due
  abbrev pub StopsBy : Stop → ℕ → ℕ → List (Step T) → Type 0
  StopsBy AllDone n budget log = (k : ℕ) → lives log k ≡ false
  StopsBy Stalled n budget log = ((k : ℕ) × (lives log k ≡ true)) × ((k : ℕ) → is_due log k ≡ false)
  StopsBy Budget n budget log = (n ≡ budget) × ((k : ℕ) × (is_due log k ≡ true))

  -- A run from a dispatcher that stands for the log: at most `budget` turns, and it stops as it says. Where a poll found
  -- too little memory that poll is the last.
  abbrev pub Ran : (T → Visit → T → Type 0) → List (Step T) → Tasks T → ℕ → Result Stop AllocError → Type 0
  Ran polls log now budget (Ok stop) = (n : ℕ) × (n ≤ budget) × (new : List (Step T)) × Turns polls n log new × StandsFor now new × StopsBy stop n budget new
  Ran polls log now budget (Err _) = (n : ℕ) × (n < budget) × (mid : List (Step T)) × Turns polls n log mid × (new : List (Step T)) × Turn polls mid new true × StandsFor now new
