-- A run, as far as it has come.
use Rattle.std.specs.Prelude.{◌≡◌, ℕ, ◌≤◌, false, List, length}
use Rattle.demo_services.specs.DemoRule.{demo_rule}
use Rattle.link_script.specs.declared.command.Command.{Command}
use Rattle.rpc_journal.specs.Refusals.{is_full}
use Rattle.transfer_base.specs.declared.tuning.Tuning.{Tuning}
use Rattle.link_laws.specs.declared.world.limits.TheConstants.{MAX_DELIVERIES}
use Rattle.link_laws.specs.world.Setup.{client_setting}
use Rattle.link_laws.specs.world.Turns.{Turn, Turns, ending, next_kind, timing}
use Rattle.link_laws.specs.world.World.{Setup, World, first_world}
use Rattle.link_world.specs.client.ClientSide.{ClientState}
use Rattle.link_world.specs.server.ServerSide.{ServerState}
use Rattle.link_laws.specs.world.Wiring.{Wiring}
use Rattle.link_world.specs.declared.course.Course.{Course}
use Rattle.link_world.specs.declared.turn.NextTurn.{NextTurn}
use Rattle.link_world.specs.declared.turn.NextTurn.TheVariants.{Time}
use Rattle.link_world.specs.Showing.{Shows}

-- in a turn of time the server's journal had room for its moment
abbrev pub IsTimed : NextTurn → ServerState → Type 0
IsTimed Time s = is_full s.end.serving.table.entries ≡ false
IsTimed _ s = Unit {0}

-- the next turn leads to a world that all of this shows; in a turn of time the server's journal had room
pub record ShowsTurn (k : Setup) (commands : List Command) (w : World) (s : ServerState) (c : ClientState) (x : Wiring) (d : Course) : Type 0 where
  pub now : World
  pub turn : Turn k w now
  pub shows : Shows k commands s c x d now
  pub timed : next_kind w ≡ timing → is_full w.server ≡ false

-- what is fixed with the world in which both ends and the link stand so before anything happens
abbrev pub setup_by : ServerState → ClientState → Wiring → Tuning → Setup
setup_by s c x tuning = record {
  rule = demo_rule;
  server = s.end.serving.table.setting;
  client = client_setting;
  server_store = s.stored;
  client_store = c.stored;
  losses = x.losses;
  window = tuning.window;
  chunk = tuning.chunk;
}

-- so many turns of these commands have led to a world that all of this shows
pub record ComesTo (k : Setup) (commands : List Command) (s : ServerState) (c : ClientState) (x : Wiring) (d : Course) : Type 0 where
  pub count : ℕ
  pub now : World
  pub turns : Turns k count (first_world commands) now
  pub shows : Shows k commands s c x d now
  pub within : now.delivered ≤ MAX_DELIVERIES
  pub timed : now.times ≤ length now.server

-- and the turn that comes next is the end
pub record EndsWith (k : Setup) (commands : List Command) (s : ServerState) (c : ClientState) (x : Wiring) (d : Course) : Type 0 where
  pub comes : ComesTo k commands s c x d
  pub last : next_kind comes.now ≡ ending
