-- The beginnings of runs that meet a limit.
use Rattle.std.specs.Prelude.{◌≡◌, ◌≢◌, ◌<◌, ℕ, List, ◌⊎◌, Option, None}
use Rattle.link_script.specs.declared.command.Command.{Command}
use Rattle.rpc_journal.specs.declared.entry.Entry.{Entry}
use Rattle.rpc_journal.specs.declared.entry.EntryKind.TheVariants.{Cancel, Tick, EndIn}
use Rattle.rpc_journal.specs.History.{adding}
use Rattle.rpc_schedule.specs.Schedule.{flush_seat, input_seat, run_seat}
use Rattle.link_laws.specs.declared.world.limits.TheConstants.{MAX_DELIVERIES}
use Rattle.link_laws.specs.world.Client.{ClientSettles}
use Rattle.link_laws.specs.world.Hearing.{ClientHearingStops, ServerHearingStops}
use Rattle.link_laws.specs.world.Starts.{StartStops}
use Rattle.link_laws.specs.world.Stops.{ClientStops, ServerStops, ServerStopsWith}
use Rattle.link_laws.specs.world.Turns.{Kind, Turns, ending, later, next_kind, to_server, to_client, starting, cancelling, timing}
use Rattle.link_laws.specs.world.World.{Setup, Tasked, World, first_world, moment, task_of}

-- so many frames were delivered, and the next turn isn't the end: a command is under way or to come, or a frame is on the
-- link
pub record IsPastFrames (k : Setup) (commands : List Command) : Type 0 where
  pub count : ℕ
  pub now : World
  pub turns : Turns k count (first_world commands) now
  pub many : now.delivered ≡ MAX_DELIVERIES
  pub left : next_kind now ≢ ending

-- the client's poll stops, or the server's Tick behind it
abbrev pub TimeStops : Setup → World → Type 0
TimeStops k w =
    ClientStops k.client (moment (later w)) w.client (task_of w)
    ⊎ ((client : List Entry) × (task : Option Tasked) × ClientSettles k.client (moment (later w)) w.client (task_of w) client task
    × ServerStopsWith k.rule k.server w.server flush_seat (Tick (moment (later w))))

-- the EndIn itself always has room
abbrev pub EndStops : Setup → World → Type 0
EndStops k w =
    ServerStops k.rule k.server (adding w.server input_seat EndIn)
    ⊎ ClientStops k.client (moment w) (adding w.client input_seat EndIn) None

abbrev pub StopsIn : Setup → World → Kind → Type 0
StopsIn k w (to_server frame rest) = ServerHearingStops k.rule k.server w.server w.fed_server frame
StopsIn k w (to_client frame rest) = ClientHearingStops k.client (moment w) w.client (task_of w) w.fed_client frame
StopsIn k w (starting command rest) = StartStops k w command
StopsIn k w (cancelling call) = ClientStops k.client (moment w) (adding w.client run_seat (Cancel call)) None
StopsIn k w timing = TimeStops k w
StopsIn k w ending = EndStops k w

-- After whole turns, the journal of an end has no room for the next entry of the turn that comes; and the limit of deliveries wasn't
-- met before, which is asked of each turn but the end.
pub record IsPastJournal (k : Setup) (commands : List Command) : Type 0 where
  pub count : ℕ
  pub now : World
  pub turns : Turns k count (first_world commands) now
  pub stops : StopsIn k now (next_kind now)
  pub first : next_kind now ≢ ending → now.delivered < MAX_DELIVERIES
