-- An end stops in a turn of the world.
use Rattle.std.proofs.Common.{◌≡◌, ◌⊎◌, ℕ, ◌+◌, ◌*◌, ◌<◌, List, Option, None, Result, Ok, Err, IsErr, IsErrAnd, true, sym, subst, inl, inr}
use Rattle.std.specs.Prelude.{◌≢◌}
use Rattle.demo_services.specs.DemoRule.{demo_rule}
use Rattle.link_script.specs.declared.command.Command.{Command}
use Rattle.link_script.specs.declared.command.Command.TheVariants.{Read, Write, Echo, Count, Sum, Chat, Close}
use Rattle.rpc_journal.specs.declared.entry.EntryKind.TheVariants.{Cancel, EndIn, Tick}
use Rattle.rpc_journal.specs.History.{adding}
use Rattle.rpc_journal.specs.Refusals.{is_full}
use Rattle.rpc_schedule.specs.Schedule.{flush_seat, input_seat, run_seat}
use Rattle.rpc_schedule.specs.Serving.{deeds}
use Rattle.link_laws.specs.declared.world.limits.TheConstants.{MAX_DELIVERIES, TURN_OF_TIME}
use Rattle.link_laws.specs.world.Client.{ClientSettles}
use Rattle.link_laws.specs.world.Limits.{EndStops, IsPastJournal, StopsIn, TimeStops}
use Rattle.link_laws.specs.world.Starts.{AskingStops, ClosingStops, StartStops, closed_by, ended_by_close}
use Rattle.link_laws.specs.world.Hearing.{ClientHearingStops, ServerHearingStops}
use Rattle.link_laws.specs.world.Stops.{ClientStops, ClientTakingStops, ServerStops, ServerStopsWith, ServerTakingStops}
use Rattle.link_laws.specs.world.Setup.{client_setting}
use Rattle.link_laws.specs.world.Turns.{Kind, cancelling, ending, later, next_kind}
use Rattle.link_laws.specs.world.World.{task_of, Setup, World, moment}
use Rattle.link_world.specs.declared.client.under.Under.{Under}
use Rattle.link_world.specs.client.Asking.{IsAsked}
use Rattle.link_world.specs.client.ClientSide as client
use Rattle.link_world.specs.client.ClientSide.{ClientState, ClientWorks}
use Rattle.link_world.specs.client.Underway.{task_seen}
use Rattle.link_world.specs.declared.server.stopped.Stopped.{Stopped}
use Rattle.link_world.specs.declared.server.stopped.Stopped.TheVariants as stopped
use Rattle.link_world.specs.server.ServerSide as server
use Rattle.link_world.specs.server.ServerSide.{ServerState}
use Rattle.link_laws.specs.world.Wiring.{Wiring}
use Rattle.link_world.specs.declared.course.Course.{Course}
use Rattle.link_world.specs.declared.outcome.WorldRefused.{WorldRefused}
use Rattle.link_world.specs.declared.outcome.WorldRefused.TheVariants.{Journal}
use Rattle.link_world.specs.Refused.{refused_by}
use Rattle.link_world.specs.Running.{ComesTo}
use Rattle.link_world.specs.Showing.{ClientShows, CourseShows, ServerShows}
use Rattle.link_world.proofs.ClientLemmas.{in_world}
use Rattle.link_world.proofs.ServerLemmas.{ended_is, ruled}
use Rattle.link_world.proofs.TimeLemmas.{later_shows, ticks_at}

-- a turn stopped for want of room in a journal
pub stopped_so : {T U : Type 0} (r : Result T WorldRefused) (old : Result U Stopped) (why : Stopped) → old ≡ Err why
    → IsErr r × IsErrAnd r (λ e. e ≡ refused_by why) → r ≡ Err Journal → old ≡ Err stopped.Journal
stopped_so (Ok x) old why was is same = absurd cc
stopped_so (Err e) old stopped.Journal was is same = was
stopped_so (Err e) old stopped.Memory was is same = let other = is.1 in absurd cc

-- so many turns of these commands, and a turn that stops
pub past_journal : (k : Setup) (commands : List Command) (s : ServerState) (c : ClientState) (x : Wiring) (d : Course) (comes : ComesTo k commands s c x d)
    → StopsIn k comes.now (next_kind comes.now) → (next_kind comes.now ≢ ending → comes.now.delivered < MAX_DELIVERIES) → IsPastJournal k commands
past_journal k commands s c x d comes stops first = record { count = comes.count; now = comes.now; turns = comes.turns; stops = stops; first = first }

-- fewer deliveries were counted
pub fewer_told : (k : Setup) (commands : List Command) (s : ServerState) (c : ClientState) (x : Wiring) (d : Course) (comes : ComesTo k commands s c x d)
    → d.delivered < MAX_DELIVERIES → next_kind comes.now ≢ ending → comes.now.delivered < MAX_DELIVERIES
fewer_told k commands s c x d comes fewer other = subst (λ n. n < MAX_DELIVERIES) comes.shows.course.delivered fewer

module _ (k : Setup) where
  pub next_stops : (w : World) (kind : Kind) → next_kind w ≡ kind → StopsIn k w kind → StopsIn k w (next_kind w)
  next_stops w kind is stops = subst (StopsIn k w) (sym is) stops

  -- THE SERVER, AT A FRAME
  pub up_stops : (w : World) (frame : List ℕ) (s : ServerState) → ServerShows k s w.server w.fed_server
      → server.ServerStopsHearing demo_rule s.end.serving w.fed_server frame → ServerHearingStops k.rule k.server w.server w.fed_server frame
  up_stops w frame s shows stops = record {
    packets = stops.packets;
    heard = stops.heard;
    holds = ruled k (λ rule set h. ServerTakingStops rule set stops.packets h) s w.server w.fed_server shows stops.holds;
  }

  -- THE CLIENT, AT A FRAME
  pub down_stops : (commands : List Command) (w : World) (frame : List ℕ) (c : ClientState) (d : Course) → ClientShows k c w.client w.fed_client → CourseShows commands d w
      → client.ClientStopsHearing (TURN_OF_TIME * d.times) c.end.serving d.under w.fed_client frame → ClientHearingStops k.client (moment w) w.client (task_of w) w.fed_client frame
  down_stops commands w frame c d shows course stops = record {
    packets = stops.packets;
    heard = stops.heard;
    holds = in_world k (λ set at h task. ClientTakingStops set at stops.packets h task) commands w c d w.fed_client shows course stops.holds;
  }

  -- A CHANNEL IS CLOSED
  pub close_stops : (w : World) (channel : ℕ) (s : ServerState) → ServerShows k s w.server w.fed_server
      → (is_full s.end.serving.table.entries ≡ true)
      ⊎ ServerStops demo_rule s.end.serving.table.setting
      (closed_by channel (ended_by_close s.end.serving.table.setting (deeds s.end.serving) channel) s.end.serving.table.entries)
      → ClosingStops k w channel
  close_stops w channel s shows (inl full) = inl (subst (λ h. is_full h ≡ true) shows.entries full)
  close_stops w channel s shows (inr stops) =
      let ended : Option ℕ = ended_by_close s.end.serving.table.setting (deeds s.end.serving) channel in
      inr (subst (λ count. ServerStops k.rule k.server (closed_by channel count w.server)) (ended_is k w channel s shows)
      (ruled k (λ rule set h. ServerStops rule set (closed_by channel ended h)) s w.server w.fed_server shows stops))

  -- A COMMAND OF THE CLIENT
  pub start_stops : (w : World) (command : Command) → IsAsked command → AskingStops k w command → StartStops k w command
  start_stops w (Close channel) asked stops = absurd asked
  start_stops w (Read resource offset) asked stops = stops
  start_stops w (Write resource offset) asked stops = stops
  start_stops w (Echo bytes) asked stops = stops
  start_stops w (Count n) asked stops = stops
  start_stops w (Sum bytes) asked stops = stops
  start_stops w (Chat bytes) asked stops = stops

  module _ (commands : List Command) (w : World) (c : ClientState) (d : Course) (shows : ClientShows k c w.client w.fed_client) (course : CourseShows commands d w) where
    -- A CALL IS CANCELLED
    pub cancel_stops : (call : ℕ) → ClientStops client_setting (TURN_OF_TIME * d.times) (adding c.end.serving.table.entries run_seat (Cancel call)) None
        → StopsIn k w (cancelling call)
    cancel_stops call stops = in_world k (λ set at h task. ClientStops set at (adding h run_seat (Cancel call)) None) commands w c d w.fed_client shows course stops

    -- TIME PASSES, FOR THE CLIENT
    pub poll_stops : ClientStops client_setting (TURN_OF_TIME * (d.times + 1)) c.end.serving.table.entries (task_seen d.under) → TimeStops k w
    poll_stops stops =
        inl (in_world k (λ set at h task. ClientStops set at h task) commands (later w) c (record d { times = d.times + 1 }) w.fed_client shows
        (later_shows k commands d w course) stops)

    -- and for the server
    pub tick_stops : (s : ServerState) (new : ClientState) (under : Option Under) → ServerShows k s w.server w.fed_server
        → ClientWorks (TURN_OF_TIME * (d.times + 1)) c.end.serving.table.entries d.under new.end.serving.table.entries under
        → ServerStopsWith demo_rule s.end.serving.table.setting s.end.serving.table.entries flush_seat (Tick (TURN_OF_TIME * (d.times + 1))) → TimeStops k w
    tick_stops s new under server works stops =
        let first = new.end.serving.table.entries in
        inr (
          first,
          works.next,
          in_world k (λ set at h task. ClientSettles set at h task first works.next) commands (later w) c (record d { times = d.times + 1 }) w.fed_client shows
              (later_shows k commands d w course) works.settles,
          ticks_at k (λ at. ServerStopsWith k.rule k.server w.server flush_seat (Tick at)) commands d w course
              (ruled k (λ rule set h. ServerStopsWith rule set h flush_seat (Tick (TURN_OF_TIME * (d.times + 1)))) s w.server w.fed_server server stops),
        )

    -- THE INPUT OF THE CLIENT ENDS
    pub client_end_stops : ClientStops client_setting (TURN_OF_TIME * d.times) (adding c.end.serving.table.entries input_seat EndIn) None → EndStops k w
    client_end_stops stops = inr (in_world k (λ set at h task. ClientStops set at (adding h input_seat EndIn) None) commands w c d w.fed_client shows course stops)

  -- and that of the server
  pub server_end_stops : (w : World) (s : ServerState) → ServerShows k s w.server w.fed_server
      → ServerStops demo_rule s.end.serving.table.setting (adding s.end.serving.table.entries input_seat EndIn) → EndStops k w
  server_end_stops w s shows stops = inl (ruled k (λ rule set h. ServerStops rule set (adding h input_seat EndIn)) s w.server w.fed_server shows stops)
