-- The client of a world, between two things that come to it, and what they do to it.
use Rattle.std.specs.Prelude.{◌≡◌, ℕ, ◌≤◌, ◌<◌, false, List, Option, IfSome}
use Rattle.std.specs.List.{AllByRecursion}
use Rattle.link_io.specs.Stored.{Stored}
use Rattle.rpc_ids.specs.declared.method.Role.TheVariants.{Client}
use Rattle.rpc_handlers.specs.declared.event.Event.{Event}
use Rattle.rpc_journal.specs.declared.entry.Entry.{Entry}
use Rattle.rpc_journal.specs.declared.item.Item.{Item}
use Rattle.rpc_journal.specs.Calls.{call_count, calls, of_call}
use Rattle.rpc_journal.specs.Effect.{Deed, Opening}
use Rattle.rpc_journal.specs.Items.{items_flushed}
use Rattle.rpc_journal.specs.Rows.{is_closed}
use Rattle.rpc_journal.specs.States.{finished_since}
use Rattle.rpc_schedule.specs.Kept.{kept}
use Rattle.rpc_schedule.specs.Serving.{Serving, deeds}
use Rattle.rpc_schedule.specs.ends.EndState.{EndState}
use Rattle.link_laws.specs.world.Client.{ClientSettles}
use Rattle.link_laws.specs.world.Hearing.{ClientHearingStops, HeardAtClient}
use Rattle.link_laws.specs.world.Setup.{client_setting}
use Rattle.link_laws.specs.world.World.{under_with, Tasked}
use Rattle.link_world.specs.server.Resting.{IsResting}
use Rattle.link_world.specs.server.GoesOut.{GoesOut}
use Rattle.link_laws.specs.world.Wiring.{Wiring}
use Rattle.link_world.specs.declared.client.desk.Desk.{Desk}
use Rattle.link_world.specs.declared.client.under.Under.{Under}
use Rattle.link_world.specs.client.Underway.{call_seen, last_poll, task_seen, under_seen}

-- the end of the link, what its store holds, the items that have gone out, in order, and the events that runs of its calls
-- took, each with its call
pub record ClientState : Type 0 where
  pub end : EndState
  pub stored : Stored
  pub items : List Item
  pub events : List (ℕ × Event)

-- what the client works with shows this
abbrev pub state_of : Desk → ClientState
state_of desk = record { end = desk.client; stored = desk.store; items = desk.items.items; events = desk.events.items }

-- the list has the events that the runs of each call took, in order
abbrev pub HasEvents : Serving → List (ℕ × Event) → Type 0
HasEvents s events = (c : ℕ) → finished_since (deeds s) c ≡ of_call c events

-- one more call can open with the next id: channel 1 is open, and no id is larger than the number of calls
pub record IsNumbered (ds : List Deed) : Type 0 where
  pub unclosed : is_closed ds 1 ≡ false
  pub ids : AllByRecursion (λ (o : Opening). o.name.call ≤ call_count ds) (calls ds)

-- nothing is left to do, and what was kept of its history is what its history tells
pub record ClientRests (s : ClientState) : Type 0 where
  pub resting : IsResting s.end.serving
  pub setting : s.end.serving.table.setting ≡ client_setting
  pub items : s.items ≡ items_flushed (deeds s.end.serving)
  pub events : HasEvents s.end.serving s.events
  pub numbered : IsNumbered (deeds s.end.serving)

-- what is under way is about a call that is there, and a task was polled last at this moment or before
pub record Attends (s : ClientState) (under : Option Under) (now : ℕ) : Type 0 where
  pub call : IfSome (call_seen under) (λ c. c < call_count (deeds s.end.serving))
  pub past : last_poll under ≤ now

-- items went out, and the store has got what they are
pub record ClientMoves (before : ClientState) (old : Wiring) (after : ClientState) (new : Wiring) : Type 0 where
  pub setting : after.end.serving.table.setting ≡ before.end.serving.table.setting
  pub out : GoesOut Client before.items old after.items new
  pub kept : (st : Stored) → before.stored ≡ kept before.items st → after.stored ≡ kept after.items st

-- from these entries on the client did its work once, at this moment; what is under way stands so then
pub record ClientWorks (now : ℕ) (before : List Entry) (old : Option Under) (after : List Entry) (new : Option Under) : Type 0 where
  pub next : Option Tasked
  pub settles : ClientSettles client_setting now before (task_seen old) after next
  pub under : under_seen new ≡ under_with next (under_seen old)

-- Behind these bytes a frame was fed, at a moment: the packets that are heard with it arrived, and the client did its work
-- behind each.
pub record ClientHeard (now : ℕ) (before : Serving) (old : Option Under) (after : Serving) (new : Option Under) (fed frame : List ℕ) : Type 0 where
  pub next : Option Tasked
  pub hears : HeardAtClient client_setting now before.table.entries (task_seen old) after.table.entries next fed frame
  pub under : under_seen new ≡ under_with next (under_seen old)

-- behind these bytes the frame was fed up to a packet that has no room, or whose work has none
abbrev pub ClientStopsHearing : ℕ → Serving → Option Under → List ℕ → List ℕ → Type 0
ClientStopsHearing now before old fed frame = ClientHearingStops client_setting now before.table.entries (task_seen old) fed frame
