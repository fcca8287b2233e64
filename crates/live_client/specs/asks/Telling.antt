-- A task that speaks through a call, behind a dispatcher.
use Rattle.std.specs.Prelude.{◌≡◌, ℕ, ◌<◌, Bool, true, false, List, [], ◌∷◌, ◌++◌, map, flat_map, Option, None}
use Rattle.rpc_ids.specs.declared.status.Status.{Status}
use Rattle.rpc_handlers.specs.declared.answer.Out.{Out}
use Rattle.rpc_handlers.specs.declared.event.Event.{Event}
use Rattle.task_core.specs.bells.Bells.{Heard, Tower}
use Rattle.task_core.specs.Visit.{Visit}
use Rattle.task_core.specs.Log.{Step, looks_of}
use Rattle.task_core.specs.Due.{result_of}
use Rattle.task_core.specs.Tasks.{Adds, AddsNothing, HasKey, StandsFor, Tasks}
use Rattle.live_client.specs.asks.Tasks.{AreBetween, AreTurns, Given, HasGoneOn, IsAloneIn, IsPrompt, WantedIf, given_in, mail_in, mail_of, mails, says_at}

-- the ear of these words, of which there is one
pub record HasWord (ear : Heard) (tower : Tower) : Type 0 where
  pub own : ear.table ≡ tower.table
  pub word : 0 < tower.table.words

-- What is known of how far an errand has come: nothing, that it has gone on behind all that it heard, or that nothing waits besides.
pub data Progress : Type 0 where
  unknown : Progress
  gone_on : Progress
  said_all : Progress

-- behind an event it isn't known whether it goes on, but where it had ended
abbrev pub when_over : Bool → Progress
when_over true = said_all
when_over false = unknown

module _ {T : Type 0} where
  -- one task is there, with the key 0
  pub record IsAlone (tasks : Tasks T) : Type 0 where
    pub there : HasKey tasks 0
    pub alone : (key : ℕ) → HasKey tasks key → key ≡ 0

  -- what the task said and nobody took yet
  abbrev pub waiting : Tasks T → List Out
  waiting tasks = map (λ (said : ℕ × Out). said.1) tasks.outs

  abbrev pub HasCome : Progress → Tasks T → List (Step T) → Type 0
  HasCome unknown tasks log = Unit {0}
  HasCome gone_on tasks log = HasGoneOn log
  HasCome said_all tasks log = HasGoneOn log × (tasks.outs ≡ [])

  -- Its steps: the polls lie between these moments, it was posted these events, and these outs were taken of what it said; what waits
  -- it said behind the last of its mail. No poll found too little memory, but for the last where the task fell short of it.
  pub record Told (polls : T → Visit → T → Type 0) (task : T) (tasks : Tasks T) (ear : Heard) (short : Bool) (start upto : ℕ) (events : List Event) (outs : List Given) (ended : Option Status) : Type 0 where
    pub log : List (Step T)
    pub stands : StandsFor tasks log
    pub looks : looks_of log ≡ ear.looks
    pub alone : IsAloneIn task log
    pub turns : AreTurns polls log
    pub between : AreBetween start upto log
    pub prompt : IsPrompt log
    pub whole : WantedIf short log
    pub mail : mail_in log ≡ flat_map mail_of events
    pub said : given_in log ≡ outs ++ map (says_at (mails events)) (waiting tasks)
    pub result : result_of log 0 ≡ ended

  -- the same of a task that is never cancelled
  pub record Tells (polls : T → Visit → T → Type 0) (task : T) (tasks : Tasks T) (ear : Heard) (short : Bool) (far : Progress) (start upto : ℕ) (cut : Option Status) (events : List Event) (outs : List Given) (ended : Option Status) : Type 0 where
    pub told : Told polls task tasks ear short start upto events outs ended
    pub come : HasCome far tasks told.log
    pub uncut : cut ≡ None

  -- the dispatcher stands for its log with these steps more, the oldest first
  abbrev pub AllAdd : Tasks T → Tasks T → List (Step T) → Type 0
  AllAdd old new [] = AddsNothing old new
  AllAdd old new (step ∷ steps) = Adds old new step

  -- less is known of it
  abbrev pub told_weaker :
      (polls : T → Visit → T → Type 0) (task : T) (tasks : Tasks T) (ear : Heard) (short : Bool) (far : Progress) (start upto : ℕ) (cut : Option Status) (events : List Event) (outs : List Given) (ended : Option Status)
      → Tells polls task tasks ear short far start upto cut events outs ended → Tells polls task tasks ear short unknown start upto cut events outs ended
  told_weaker polls task tasks ear short far start upto cut events outs ended so = record { told = so.told; come = tt; uncut = so.uncut }
