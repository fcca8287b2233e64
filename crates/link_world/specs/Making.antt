-- What the functions of a turn do to what the parts show.
use Rattle.std.specs.Prelude.{◌≡◌, ℕ, List}
use Rattle.link_script.specs.declared.command.Command.{Command}
use Rattle.link_laws.specs.world.Lines.{finished}
use Rattle.link_laws.specs.world.Turns.{Kind, TurnOf, cancelling, next_kind, starting, timing, to_client, to_server}
use Rattle.link_laws.specs.world.World.{Setup, World, wiring_of}
use Rattle.link_world.specs.client.ClientSide.{ClientState}
use Rattle.link_world.specs.server.ServerSide.{ServerState}
use Rattle.link_laws.specs.world.Wiring.{Wiring}
use Rattle.link_world.specs.declared.course.Course.{Course}
use Rattle.link_world.specs.declared.turn.NextTurn.{NextTurn}
use Rattle.link_world.specs.declared.turn.NextTurn.TheVariants.{ToServer, ToClient, Start, Cancel, Time}
use Rattle.link_world.specs.Showing.{ClientShows, CourseShows, ServerShows}

-- a frame was taken off the link, and these are left on it
abbrev pub with_rest_up : List (List ℕ) → World → World
with_rest_up rest w = record w { to_server = record w.to_server { frames = rest } }

abbrev pub with_rest_down : List (List ℕ) → World → World
with_rest_down rest w = record w { to_client = record w.to_client { frames = rest } }

-- a command was taken, and these are left
abbrev pub with_coming : List Command → World → World
with_coming rest w = record w { coming = rest }

-- this turn comes next, and the link is so then
abbrev pub TakesTurn : Setup → World → Wiring → NextTurn → Type 0
TakesTurn k w x (ToServer frame) = (rest : List (List ℕ)) × (next_kind w ≡ to_server frame rest) × (x ≡ wiring_of k (with_rest_up rest w))
TakesTurn k w x (ToClient frame) = (rest : List (List ℕ)) × (next_kind w ≡ to_client frame rest) × (x ≡ wiring_of k (with_rest_down rest w))
TakesTurn k w x (Start command) = (rest : List Command) × (next_kind w ≡ starting command.now rest) × (x ≡ wiring_of k w)
TakesTurn k w x (Cancel call) = (next_kind w ≡ cancelling call) × (x ≡ wiring_of k w)
TakesTurn k w x Time = (next_kind w ≡ timing) × (x ≡ wiring_of k w)

pub record SameServer (w mid : World) : Type 0 where
  pub entries : mid.server ≡ w.server
  pub fed : mid.fed_server ≡ w.fed_server

pub record SameClient (w mid : World) : Type 0 where
  pub entries : mid.client ≡ w.client
  pub fed : mid.fed_client ≡ w.fed_client

-- A turn of this kind, up to its end: to a world that the server and the link show, and in which the client is the same.
pub record ServerTurns (k : Setup) (commands : List Command) (w : World) (kind : Kind) (s : ServerState) (x : Wiring) (d : Course) : Type 0 where
  pub mid : World
  pub turn : TurnOf k w kind (finished k mid)
  pub server : ServerShows k s mid.server mid.fed_server
  pub client : SameClient w mid
  pub wires : x ≡ wiring_of k mid
  pub course : CourseShows commands d mid

-- the same of a turn of the client
pub record ClientTurns (k : Setup) (commands : List Command) (w : World) (kind : Kind) (c : ClientState) (x : Wiring) (d : Course) : Type 0 where
  pub mid : World
  pub turn : TurnOf k w kind (finished k mid)
  pub server : SameServer w mid
  pub client : ClientShows k c mid.client mid.fed_client
  pub wires : x ≡ wiring_of k mid
  pub course : CourseShows commands d mid

-- and of any turn
pub record WorldTurns (k : Setup) (commands : List Command) (w : World) (kind : Kind) (s : ServerState) (c : ClientState) (x : Wiring) (d : Course) : Type 0 where
  pub mid : World
  pub turn : TurnOf k w kind (finished k mid)
  pub server : ServerShows k s mid.server mid.fed_server
  pub client : ClientShows k c mid.client mid.fed_client
  pub wires : x ≡ wiring_of k mid
  pub course : CourseShows commands d mid
