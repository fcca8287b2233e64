-- What a run does that loads the words of other threads' wakes.
use Rattle.std.specs.Prelude.{◌≡◌, ℕ, zero, suc, ◌<◌, ◌≤◌, Bool, true, false, List, ◌∷◌, Result, Ok, Err}
use Rattle.std.specs.declared.alloc.AllocError.{AllocError}
use Rattle.task_core.specs.declared.bells.view.Look.{Look}
use Rattle.task_core.specs.bells.Bells.{Heard}
use Rattle.task_core.specs.declared.stop.Stop.{Stop}
use Rattle.task_core.specs.Visit.{Visit}
use Rattle.task_core.specs.Log.{Step, heard, is_added, looks_of}
use Rattle.task_core.specs.Due.{lives, is_due}
use Rattle.task_core.specs.Runs.{Turn, StopsBy}
use Rattle.task_core.specs.Tasks.{Tasks, StandsFor}

-- the ear of the same words, with as many bells
pub record IsSameEar (old new : Heard) : Type 0 where
  pub table : new.table ≡ old.table
  pub bells : new.bells ≡ old.bells

module _ {T : Type 0} where
  -- the word of a task that lives is loaded
  abbrev pub HeardAt : Bool → ℕ → List (Step T) → List (Step T) → Type 0
  HeardAt true key log new = (total : ℕ) × (new ≡ heard key total ∷ log)
  HeardAt false key log new = new ≡ log

  -- the words of the tasks below this key are loaded, of each that lives, in the order of the keys
  abbrev pub HeardBelow : ℕ → List (Step T) → List (Step T) → Type 0
  HeardBelow zero log new = new ≡ log
  HeardBelow (suc key) log new = (mid : List (Step T)) × HeardBelow key log mid × HeardAt (lives mid key) key mid new

  -- a dispatcher that stood for a log with these loads stands for it with the words below this key loaded
  abbrev pub Scanned : ℕ → Tasks T → Tasks T → List Look → List Look → Type 0
  Scanned upto old now looks new_looks =
      (log : List (Step T)) → StandsFor old log → looks_of log ≡ looks → (new : List (Step T)) × HeardBelow upto log new × StandsFor now new × (looks_of new ≡ new_looks)

  -- the same with the word at this key alone
  abbrev pub HearsOne : ℕ → Tasks T → Tasks T → List Look → List Look → Type 0
  HearsOne key old now looks new_looks =
      (log : List (Step T)) → StandsFor old log → looks_of log ≡ looks → (new : List (Step T)) × HeardAt (lives log key) key log new × StandsFor now new × (looks_of new ≡ new_looks)

module _ {T : Type 0} (polls : T → Visit → T → Type 0) where
  -- one turn: words are loaded up to the first task that is due by them, and that is polled
  pub record HeardTurn (log new : List (Step T)) (short : Bool) : Type 0 where
    pub key : ℕ
    pub mid : List (Step T)
    pub heard : HeardBelow (suc key) log mid
    pub turn : Turn polls mid new short
    pub same : turn.key ≡ key

  abbrev pub HeardTurns : ℕ → List (Step T) → List (Step T) → Type 0
  HeardTurns zero log new = new ≡ log
  HeardTurns (suc n) log new = (mid : List (Step T)) × HeardTurns n log mid × HeardTurn mid new false

module _ {T : Type 0} where
  -- the words of all tasks are loaded, or those up to a task that is due
  abbrev pub IsHeard : ℕ → List (Step T) → Type 0
  IsHeard upto log = (k : ℕ) → is_added log k ≡ true → upto ≤ k → (j : ℕ) × (suc j ≡ upto) × (is_due log j ≡ true)

  -- A run that loads words: at most `budget` turns. It stops as it says, by the words that it loaded last. Where a poll
  -- found too little memory that poll is the last.
  abbrev pub RanHearing : (T → Visit → T → Type 0) → List (Step T) → List (Step T) → Tasks T → ℕ → Result Stop AllocError → Type 0
  RanHearing polls log new now budget (Ok stop) =
      (n : ℕ) × (n ≤ budget) × (mid : List (Step T)) × HeardTurns polls n log mid × (upto : ℕ) × HeardBelow upto mid new × StandsFor now new × StopsBy stop n budget new × IsHeard upto new
  RanHearing polls log new now budget (Err _) =
      (n : ℕ) × (n < budget) × (mid : List (Step T)) × HeardTurns polls n log mid × HeardTurn polls mid new true × StandsFor now new
