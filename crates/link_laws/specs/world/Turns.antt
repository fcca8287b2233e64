-- The turns of a world, and a run as a list of turns.
use Rattle.std.specs.Prelude.{◌≡◌, ℕ, zero, suc, ◌+◌, List, [], ◌∷◌, ◌++◌, Option, Some, None, ◌<◌}
use Rattle.link_script.specs.declared.command.Command.{Command}
use Rattle.rpc_journal.specs.declared.entry.Entry.{Entry}
use Rattle.rpc_journal.specs.declared.entry.EntryKind.TheVariants.{Cancel, Tick, EndIn}
use Rattle.rpc_journal.specs.History.{adding}
use Rattle.rpc_schedule.specs.Schedule.{Settles, flush_seat, input_seat, run_seat}
use Rattle.link_laws.specs.declared.world.limits.TheConstants.{MAX_DELIVERIES}
use Rattle.link_laws.specs.world.Client.{ClientSettles}
use Rattle.link_laws.specs.world.Hearing.{HeardAtClient, HeardAtServer}
use Rattle.link_laws.specs.world.Lines.{finished}
use Rattle.link_laws.specs.world.Starts.{StartTurn}
use Rattle.link_laws.specs.world.World.{Setup, Tasked, Under, World, calling, closing, first_world, lacking, moment, task_of, transferring, with_client, with_server, with_task}

-- what the next turn is
pub data Kind : Type 0 where
  -- the oldest frame on the way to the server, or to the client, is delivered; the others stay
  to_server : (frame : List ℕ) (rest : List (List ℕ)) → Kind
  to_client : (frame : List ℕ) (rest : List (List ℕ)) → Kind
  starting : (command : Command) (rest : List Command) → Kind
  -- the call of the command under way is cancelled
  cancelling : (call : ℕ) → Kind
  timing : Kind
  ending : Kind

abbrev pub kind_under : Under → Kind
kind_under (transferring t) = timing
kind_under (lacking resource) = timing
kind_under (calling plain call) = cancelling call
kind_under (closing channel ended) = timing

abbrev pub kind_at_rest : Option Under → List Command → Kind
kind_at_rest None [] = ending
kind_at_rest None (command ∷ rest) = starting command rest
kind_at_rest (Some under) coming = kind_under under

abbrev pub kind_by : List (List ℕ) → List (List ℕ) → Option Under → List Command → Kind
kind_by (frame ∷ rest) others under coming = to_server frame rest
kind_by [] (frame ∷ rest) under coming = to_client frame rest
kind_by [] [] under coming = kind_at_rest under coming

-- WHICH TURN COMES NEXT: the first that applies. Frames to the server go before frames to the client; where neither is on
-- its way, a command starts if none is under way, an open plain call is cancelled, and else time passes; and where nothing
-- is left of all that, the run ends
abbrev pub next_kind : World → Kind
next_kind w = kind_by w.to_server.frames w.to_client.frames w.under w.coming

-- the frame has come to its end of the link
abbrev pub with_frame_at_server : World → List ℕ → List (List ℕ) → World
with_frame_at_server w frame rest =
    record w { to_server = record w.to_server { frames = rest }; fed_server = w.fed_server ++ frame; delivered = w.delivered + 1 }

abbrev pub with_frame_at_client : World → List ℕ → List (List ℕ) → World
with_frame_at_client w frame rest =
    record w { to_client = record w.to_client { frames = rest }; fed_client = w.fed_client ++ frame; delivered = w.delivered + 1 }

-- a frame is delivered to the server
pub record ServerHears (k : Setup) (w : World) (frame : List ℕ) (rest : List (List ℕ)) (now : World) : Type 0 where
  pub after : List Entry
  pub hears : HeardAtServer k.rule k.server w.server after w.fed_server frame
  pub is : now ≡ finished k (with_server k (with_frame_at_server w frame rest) after)

-- a frame is delivered to the client
pub record ClientHears (k : Setup) (w : World) (frame : List ℕ) (rest : List (List ℕ)) (now : World) : Type 0 where
  pub after : List Entry
  pub task : Option Tasked
  pub hears : HeardAtClient k.client (moment w) w.client (task_of w) after task w.fed_client frame
  pub is : now ≡ finished k (with_client k (with_task task (with_frame_at_client w frame rest)) after)

-- The plain call of the command under way is cancelled.
pub record Cancels (k : Setup) (w : World) (call : ℕ) (now : World) : Type 0 where
  pub after : List Entry
  pub settles : ClientSettles k.client (moment w) (adding w.client run_seat (Cancel call)) None after None
  pub is : now ≡ finished k (with_client k w after)

-- one turn of time more has passed
abbrev pub later : World → World
later w = record w { times = w.times + 1 }

-- Time passes: the client's task is polled at the later moment, and then the server is told of it.
pub record TimePasses (k : Setup) (w : World) (now : World) : Type 0 where
  pub client : List Entry
  pub task : Option Tasked
  pub polls : ClientSettles k.client (moment (later w)) w.client (task_of w) client task
  pub server : List Entry
  pub ticks : Settles k.rule k.server (adding w.server flush_seat (Tick (moment (later w)))) server
  pub is : now ≡ finished k (with_server k (with_client k (with_task task (later w)) client) server)

-- ONE TURN, BY WHAT IT IS. The end is no such turn
abbrev pub TurnOf : Setup → World → Kind → World → Type 0
TurnOf k w (to_server frame rest) now = ServerHears k w frame rest now
TurnOf k w (to_client frame rest) now = ClientHears k w frame rest now
TurnOf k w (starting command rest) now = StartTurn k w command rest now
TurnOf k w (cancelling call) now = Cancels k w call now
TurnOf k w timing now = TimePasses k w now
TurnOf k w ending now = ⊥

abbrev pub Turn : Setup → World → World → Type 0
Turn k w now = TurnOf k w (next_kind w) now

-- a turn that a run makes: one more frame may be delivered
pub record MakesTurn (k : Setup) (w now : World) : Type 0 where
  pub room : w.delivered < MAX_DELIVERIES
  pub turn : Turn k w now

-- so many turns
abbrev pub Turns : Setup → ℕ → World → World → Type 0
Turns k zero w now = w ≡ now
Turns k (suc n) w now = (next : World) × MakesTurn k w next × Turns k n next now

-- The end: the input of both ends ends, and they do what is left to do.
pub record Ends (k : Setup) (w now : World) : Type 0 where
  pub is_last : next_kind w ≡ ending
  pub server : List Entry
  pub server_settles : Settles k.rule k.server (adding w.server input_seat EndIn) server
  pub client : List Entry
  pub client_settles : ClientSettles k.client (moment w) (adding w.client input_seat EndIn) None client None
  pub is : now ≡ with_client k (with_server k w server) client

-- A RUN of these commands: turns from the first world on, the last of them the end
pub record Turned (k : Setup) (commands : List Command) (now : World) : Type 0 where
  pub count : ℕ
  pub before : World
  pub turns : Turns k count (first_world commands) before
  pub ends : Ends k before now
