-- The parts of the client's work: calls run, the task that speaks is polled, and what waits goes out.
use Rattle.std.specs.Prelude.{◌≡◌, ℕ, true, List, ◌++◌, Option, Some, None}
use Rattle.rpc_packet.specs.declared.owned.Packet.{Packet}
use Rattle.rpc_handlers.specs.declared.event.Event.{Event}
use Rattle.rpc_journal.specs.declared.answers.SayRefused.{SayRefused}
use Rattle.rpc_journal.specs.declared.answers.SayRefused.TheVariants.{JournalFull}
use Rattle.rpc_journal.specs.declared.answers.SayRefused.TheVariants as refused
use Rattle.rpc_journal.specs.declared.entry.Entry.{Entry}
use Rattle.rpc_journal.specs.declared.item.Item.{Item}
use Rattle.rpc_journal.specs.Calls.{calls, of_call}
use Rattle.rpc_journal.specs.Choice.{NoneReady}
use Rattle.rpc_journal.specs.Items.{arrivals, items_flushed, items_waiting}
use Rattle.rpc_journal.specs.Queues.{waiting_of}
use Rattle.rpc_journal.specs.Rows.{is_closed}
use Rattle.rpc_journal.specs.States.{finished_since}
use Rattle.rpc_schedule.specs.Schedule.{IsOver, NoneWaits}
use Rattle.rpc_schedule.specs.Serving.{Serving, deeds, is_idle}
use Rattle.rpc_schedule.specs.Settling.{IsOrderly, Stays}
use Rattle.link_laws.specs.world.Client.{ClientTakes, FlushesTo, RunsTo}
use Rattle.link_laws.specs.world.Stops.{HasNoRoom}
use Rattle.link_laws.specs.world.Setup.{client_setting, quiet_rule}
use Rattle.link_laws.specs.world.World.{under_with, Tasked}
use Rattle.link_world.specs.declared.server.stopped.Stopped.{Stopped}
use Rattle.link_world.specs.declared.server.stopped.Stopped.TheVariants.{Journal, Memory}
use Rattle.link_world.specs.declared.client.under.Under.{Under}
use Rattle.link_world.specs.client.ClientSide.{ClientWorks, HasEvents, IsNumbered}
use Rattle.link_world.specs.client.Underway.{task_seen, under_seen}
use Rattle.link_world.specs.Room.{StaysWithin}

-- nothing runs, each entry had room, one more call can open, and what was kept of the history is what it tells
pub record IsKept (s : Serving) (out : List Item) (taken : List (ℕ × Event)) : Type 0 where
  pub orderly : IsOrderly s
  pub room : StaysWithin s.table.entries
  pub setting : s.table.setting ≡ client_setting
  pub items : out ≡ items_flushed (deeds s)
  pub events : HasEvents s taken
  pub numbered : IsNumbered (deeds s)

-- all ready calls ran, and the events that they took came behind those of the list
pub record ClientRuns (old : Serving) (before : List (ℕ × Event)) (new : Serving) (after : List (ℕ × Event)) : Type 0 where
  pub stays : Stays old new
  pub orderly : IsOrderly new
  pub calls : calls (deeds new) ≡ calls (deeds old)
  pub closed : is_closed (deeds new) 1 ≡ is_closed (deeds old) 1
  pub run_count : ℕ
  pub runs : RunsTo quiet_rule old.table.setting run_count old.table.entries new.table.entries
  pub none_ready : NoneReady (deeds new)
  pub same_items : items_flushed (deeds new) ≡ items_flushed (deeds old)
  pub same_waiting : items_waiting (deeds new) ≡ items_waiting (deeds old)
  pub more : List (ℕ × Event)
  pub events : after ≡ before ++ more
  pub took : (c : ℕ) → finished_since (deeds new) c ≡ finished_since (deeds old) c ++ of_call c more

-- calls ran until one was ready and had no room
pub record ClientRunsFull (old new : Serving) : Type 0 where
  pub run_count : ℕ
  pub runs : RunsTo quiet_rule old.table.setting run_count old.table.entries new.table.entries
  pub stops : HasNoRoom old.table.setting new.table.entries

-- entries were added that had room, open no call, close no channel 1, and neither put nor take an event
pub record PassesBy (old new : Serving) : Type 0 where
  pub stays : Stays old new
  pub orderly : IsOrderly new
  pub calls : calls (deeds new) ≡ calls (deeds old)
  pub closed : is_closed (deeds new) 1 ≡ is_closed (deeds old) 1
  pub took : (c : ℕ) → finished_since (deeds new) c ≡ finished_since (deeds old) c
  pub waiting : (c : ℕ) → waiting_of (deeds new) c ≡ waiting_of (deeds old) c
  pub room : StaysWithin old.table.entries → StaysWithin new.table.entries

-- such entries were added, and these stand there then; nothing went out
pub record ClientSays (old : Serving) (entries : List Entry) (new : Serving) : Type 0 where
  pub passes : PassesBy old new
  pub same_items : items_flushed (deeds new) ≡ items_flushed (deeds old)
  pub said : new.table.entries ≡ entries

-- all items that waited went out
pub record ClientFlushes (old new : Serving) : Type 0 where
  pub passes : PassesBy old new
  pub flush_count : ℕ
  pub flushes : FlushesTo old.table.setting flush_count old.table.entries new.table.entries
  pub none_waits : NoneWaits (deeds new)

-- the client did its work once, and nothing is left to do
pub record Settled (now : ℕ) (old : Serving) (under : Option Under) (new : Serving) (next : Option Under) : Type 0 where
  pub stays : Stays old new
  pub idle : is_idle new ≡ true
  pub over : IsOver new.table.setting new.table.entries
  pub calls : calls (deeds new) ≡ calls (deeds old)
  pub works : ClientWorks now old.table.entries under new.table.entries next

-- so many packets arrived, and the client did its work behind each
pub record ClientTakesMore (now : ℕ) (old : Serving) (under : Option Under) (new : Serving) (after : Option Under) : Type 0 where
  pub packets : List Packet
  pub next : Option Tasked
  pub takes : ClientTakes client_setting now packets old.table.entries (task_seen under) new.table.entries next
  pub task : task_seen after ≡ next
  pub becomes : under_seen after ≡ under_with next (under_seen under)
  pub arrived : arrivals new.table.entries ≡ arrivals old.table.entries ++ packets
  pub calls : calls (deeds new) ≡ calls (deeds old)

-- why the client stops where a call doesn't take something, if it does
abbrev pub stop_of : SayRefused → Option Stopped
stop_of JournalFull = Some Journal
stop_of refused.Memory = Some Memory
stop_of _ = None
