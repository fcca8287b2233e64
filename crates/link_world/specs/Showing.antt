-- What the parts of a run show of a world.
use Rattle.std.specs.Prelude.{◌≡◌, ℕ, ◌+◌, ◌*◌, ◌<◌, ◌≤◌, ◌^◌, List, drop, slice_get, Option, Some, None}
use Rattle.demo_services.specs.DemoRule.{demo_rule}
use Rattle.link_script.specs.declared.command.Command.{Command}
use Rattle.link_script.specs.Script.{IsCommand}
use Rattle.rpc_ids.specs.declared.method.Role.TheVariants.{Server, Client}
use Rattle.rpc_journal.specs.declared.entry.Entry.{Entry}
use Rattle.rpc_journal.specs.declared.entry.TheConstants.{MAX_ENTRIES}
use Rattle.rpc_journal.specs.Calls.{call_count, end_of}
use Rattle.rpc_journal.specs.Items.{items_flushed}
use Rattle.rpc_schedule.specs.Kept.{kept}
use Rattle.rpc_schedule.specs.Serving.{deeds}
use Rattle.rpc_schedule.specs.ends.EndState.{WasFed}
use Rattle.transfer_base.specs.declared.tuning.Tuning.{Tuning}
use Rattle.link_laws.specs.declared.world.limits.TheConstants.{TURN_OF_TIME}
use Rattle.link_laws.specs.transfers_fit.Fits.{AreSmall}
use Rattle.link_laws.specs.world.Setup.{client_setting}
use Rattle.link_laws.specs.world.World.{Setup, World}
use Rattle.link_world.specs.declared.client.under.Under.{Under}
use Rattle.link_world.specs.declared.client.under.Under.TheVariants.{Calling}
use Rattle.link_world.specs.client.ClientSide.{Attends, ClientRests, ClientState}
use Rattle.link_world.specs.client.Underway.{under_seen}
use Rattle.link_world.specs.server.ServerSide.{ServerRests, ServerState}
use Rattle.link_laws.specs.world.Wiring.{Wiring}
use Rattle.link_world.specs.declared.course.Course.{Course}
use Rattle.link_world.specs.declared.turn.NextTurn.{NextTurn}
use Rattle.link_world.specs.declared.turn.NextTurn.TheVariants.{Start, Cancel}

-- both directions of a world's link, and its numbers
abbrev pub wiring_of : Setup → World → Wiring
wiring_of k w = record { losses = k.losses; to_server = w.to_server; to_client = w.to_client; numbered = w.numbered }

-- the server has this history and was fed these bytes, and what has gone out of it and what its store holds are what the
-- history says
pub record ServerShows (k : Setup) (s : ServerState) (h : List Entry) (bytes : List ℕ) : Type 0 where
  pub rule : k.rule ≡ demo_rule
  pub role : k.server.role ≡ Server
  pub setting : s.end.serving.table.setting ≡ k.server
  pub entries : s.end.serving.table.entries ≡ h
  pub items : s.items ≡ items_flushed (deeds s.end.serving)
  pub fed : WasFed Server s.end bytes
  pub stored : s.stored ≡ kept s.items k.server_store

-- the same of the client
pub record ClientShows (k : Setup) (c : ClientState) (h : List Entry) (bytes : List ℕ) : Type 0 where
  pub fixed : k.client ≡ client_setting
  pub setting : c.end.serving.table.setting ≡ client_setting
  pub entries : c.end.serving.table.entries ≡ h
  pub items : c.items ≡ items_flushed (deeds c.end.serving)
  pub fed : WasFed Client c.end bytes
  pub stored : c.stored ≡ kept c.items k.client_store

-- so far it has come with these commands
pub record CourseShows (commands : List Command) (d : Course) (w : World) : Type 0 where
  pub coming : drop d.started commands ≡ w.coming
  pub under : under_seen d.under ≡ w.under
  pub sessions : d.sessions ≡ w.sessions
  pub delivered : d.delivered ≡ w.delivered
  pub times : d.times ≡ w.times
  pub lines : d.lines ≡ w.lines

-- a read asks so
pub record IsTuned (k : Setup) (tuning : Tuning) : Type 0 where
  pub window : k.window ≡ tuning.window
  pub chunk : k.chunk ≡ tuning.chunk

-- all of it
pub record Shows (k : Setup) (commands : List Command) (s : ServerState) (c : ClientState) (x : Wiring) (d : Course) (w : World) : Type 0 where
  pub server : ServerShows k s w.server w.fed_server
  pub client : ClientShows k c w.client w.fed_client
  pub wires : x ≡ wiring_of k w
  pub course : CourseShows commands d w

-- the plain call under way has no end
abbrev pub IsOpen : ClientState → Option Under → Type 0
IsOpen c (Some (Calling plain call)) = end_of (deeds c.end.serving) call ≡ None
IsOpen c _ = Unit {0}

-- nothing is left to do at either end, and there were fewer turns of time than a journal has room for
pub record Stands (s : ServerState) (c : ClientState) (d : Course) : Type 0 where
  pub server : ServerRests s
  pub client : ClientRests c
  pub attends : Attends c d.under (TURN_OF_TIME * d.times)
  pub times : d.times ≤ MAX_ENTRIES

-- a turn that may be made then; where a command starts, a session more has a number, and the client's resources fit
abbrev pub CanTurn : ClientState → Course → NextTurn → Type 0
CanTurn c d (Start command) = IsCommand command.now × (d.started + 1 < 2 ^ 64) × (d.sessions + 1 < 2 ^ 32) × AreSmall c.stored.full
CanTurn c d (Cancel call) = (call < call_count (deeds c.end.serving)) × (end_of (deeds c.end.serving) call ≡ None)
CanTurn c d _ = Unit {0}

abbrev pub IsCalling : Option Under → ℕ → Type 0
IsCalling (Some (Calling plain c)) call = c ≡ call
IsCalling _ call = ⊥

-- a turn of these commands that comes next
abbrev pub IsNext : List Command → Course → NextTurn → Type 0
IsNext commands d (Start command) = (slice_get commands d.started ≡ Some command.now) × (d.started + 1 < 2 ^ 64)
IsNext commands d (Cancel call) = IsCalling d.under call
IsNext commands d _ = Unit {0}
