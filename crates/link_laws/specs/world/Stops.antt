-- Where the entries of an end stop, since its journal has no room for the next one.
use Rattle.std.specs.Prelude.{◌≡◌, ℕ, ◌||◌, Bool, true, false, List, [], ◌∷◌, ◌⊎◌, Option, Some, None}
use Rattle.rpc_packet.specs.declared.owned.Packet.{Packet}
use Rattle.rpc_handlers.specs.declared.answer.Out.{Out}
use Rattle.rpc_handlers.specs.HandlerRule.{HandlerRule}
use Rattle.rpc_journal.specs.declared.entry.Entry.{Entry}
use Rattle.rpc_journal.specs.declared.entry.EntryKind.{EntryKind}
use Rattle.rpc_journal.specs.declared.entry.EntryKind.TheVariants.{Arrive}
use Rattle.rpc_journal.specs.declared.setting.Setting.{Setting}
use Rattle.rpc_journal.specs.Choice.{NoneReady, SomeReady}
use Rattle.rpc_journal.specs.History.{adding, history}
use Rattle.rpc_journal.specs.Refusals.{is_full}
use Rattle.rpc_schedule.specs.Schedule.{Reaches, Settles, input_seat}
use Rattle.rpc_schedule.specs.Schedule.Stage.{running}
use Rattle.link_laws.specs.world.Client.{ClientSettles, RunsTo, said_in, task_says}
use Rattle.link_laws.specs.world.Setup.{quiet_rule}
use Rattle.link_laws.specs.world.World.{Tasked}

-- a call is ready, and the journal has no room for its run
pub record HasNoRoom (set : Setting) (h : List Entry) : Type 0 where
  pub some_ready : SomeReady (history set h)
  pub full : is_full h ≡ true

-- the settling of the server's entries comes to a run without room
pub record ServerStops (rule : HandlerRule) (set : Setting) (before : List Entry) : Type 0 where
  pub h : List Entry
  pub reaches : Reaches rule set (running before) (running h)
  pub stops : HasNoRoom set h

-- an entry of the server has no room, or the settling behind it comes to a run without room
abbrev pub ServerStopsWith : HandlerRule → Setting → List Entry → ℕ → EntryKind → Type 0
ServerStopsWith rule set before seat kind = (is_full before ≡ true) ⊎ ServerStops rule set (adding before seat kind)

-- while these packets arrive
abbrev pub ServerTakingStops : HandlerRule → Setting → List Packet → List Entry → Type 0
ServerTakingStops rule set [] before = ⊥
ServerTakingStops rule set (p ∷ ps) before =
    ServerStopsWith rule set before input_seat (Arrive p)
    ⊎ ((mid : List Entry) × Settles rule set (adding before input_seat (Arrive p)) mid × ServerTakingStops rule set ps mid)

-- while these are said in call c, one of them has no room
abbrev pub saying_stops : Setting → ℕ → List Out → List Entry → Bool
saying_stops set c [] h = false
saying_stops set c (out ∷ outs) h = is_full h || saying_stops set c outs (said_in set c h out)

-- what a task says has no room
abbrev pub TaskStops : Setting → ℕ → List Entry → List Entry → Option Tasked → Type 0
TaskStops set now before ran None = ⊥
TaskStops set now before ran (Some t) = saying_stops set t.call (task_says set now before ran t) ran ≡ true

-- in the client's work a run has no room, or what its task says
pub record ClientStops (set : Setting) (now : ℕ) (before : List Entry) (task : Option Tasked) : Type 0 where
  pub ran : List Entry
  pub run_count : ℕ
  pub runs : RunsTo quiet_rule set run_count before ran
  pub stops : HasNoRoom set ran ⊎ (NoneReady (history set ran) × TaskStops set now before ran task)

-- while these packets arrive
abbrev pub ClientTakingStops : Setting → ℕ → List Packet → List Entry → Option Tasked → Type 0
ClientTakingStops set now [] before task = ⊥
ClientTakingStops set now (p ∷ ps) before task =
    (is_full before ≡ true)
    ⊎ ClientStops set now (adding before input_seat (Arrive p)) task
    ⊎ ((mid : List Entry) × (midway : Option Tasked) × ClientSettles set now (adding before input_seat (Arrive p)) task mid midway
    × ClientTakingStops set now ps mid midway)
