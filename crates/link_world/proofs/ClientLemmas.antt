-- What comes to the client, and goes out of it, in the world.
use Rattle.std.proofs.Common.{◌≡◌, ℕ, ◌+◌, ◌*◌, List, ◌++◌, Option, Some, None, refl, ap, sym, ◌∙◌, subst}
use Rattle.link_script.specs.declared.command.Command.{Command}
use Rattle.link_script.specs.declared.command.Command.TheVariants.{Read, Write, Echo, Count, Sum, Chat, Close}
use Rattle.rpc_ids.specs.declared.method.Role.TheVariants.{Client}
use Rattle.rpc_journal.specs.declared.entry.Entry.{Entry}
use Rattle.rpc_journal.specs.declared.entry.EntryKind.TheVariants.{Cancel}
use Rattle.rpc_journal.specs.declared.setting.Setting.{Setting}
use Rattle.rpc_journal.specs.History.{adding, history}
use Rattle.rpc_journal.specs.Items.{items_flushed}
use Rattle.rpc_schedule.specs.Kept.{kept}
use Rattle.rpc_schedule.specs.Schedule.{run_seat}
use Rattle.rpc_schedule.specs.Serving.{deeds}
use Rattle.rpc_schedule.specs.ends.EndState.{WasFed}
use Rattle.link_laws.specs.declared.world.limits.TheConstants.{TURN_OF_TIME}
use Rattle.link_laws.specs.world.Client.{ClientSettles, ClientTakes}
use Rattle.link_laws.specs.world.Lines.{finished}
use Rattle.link_laws.specs.world.Setup.{client_setting}
use Rattle.link_laws.specs.world.Starts.{starts, Asks, StartTurn, with_command}
use Rattle.link_laws.specs.world.Turns.{cancelling, starting, to_client, with_frame_at_client}
use Rattle.link_laws.specs.world.World.{task_of, task_under, under_with, with_task, wiring_of, with_wiring, Setup, Tasked, World, moment}
use Rattle.link_world.specs.declared.client.under.Under.{Under}
use Rattle.link_world.specs.client.Asking.{ClientAsks, IsAsked, IsClientOf}
use Rattle.link_world.specs.client.ClientSide.{ClientHeard, ClientMoves, ClientRests, ClientState}
use Rattle.link_world.specs.client.Underway.{task_seen, under_seen}
use Rattle.link_laws.specs.world.Wiring.{Wiring}
use Rattle.transfer_base.specs.declared.tuning.Tuning.{Tuning}
use Rattle.link_world.specs.declared.course.Course.{Course}
use Rattle.link_world.specs.Making.{ClientTurns, with_coming, with_rest_down}
use Rattle.link_world.specs.Showing.{ClientShows, CourseShows, IsTuned}
use Rattle.link_world.proofs.WireLemmas.{sent_since, wires_since}

module _ (k : Setup) where
  -- the items that have gone out, by the world's history
  pub client_items : (c : ClientState) (h : List Entry) (bytes : List ℕ) → ClientShows k c h bytes → c.items ≡ items_flushed (history k.client h)
  client_items c h bytes shows =
      shows.items ∙ (ap (λ set. items_flushed (history set c.end.serving.table.entries)) (shows.setting ∙ sym shows.fixed)
      ∙ ap (λ entries. items_flushed (history k.client entries)) shows.entries)

  -- the client has moved on
  pub client_moved : (c new : ClientState) (x y : Wiring) (h : List Entry) (bytes more : List ℕ) → ClientShows k c h bytes → ClientMoves c x new y
      → new.items ≡ items_flushed (deeds new.end.serving) → WasFed Client new.end more → ClientShows k new new.end.serving.table.entries more
  client_moved c new x y h bytes more shows moves items fed = record {
    fixed = shows.fixed;
    setting = moves.setting ∙ shows.setting;
    entries = refl;
    items = items;
    fed = fed;
    stored = moves.kept k.client_store shows.stored;
  }

  -- what holds at a moment of what is under way holds in the world
  pub in_world : (P : Setting → ℕ → List Entry → Option Tasked → Type 0) (commands : List Command) (w : World) (c : ClientState) (d : Course) (bytes : List ℕ)
      → ClientShows k c w.client bytes → CourseShows commands d w
      → P client_setting (TURN_OF_TIME * d.times) c.end.serving.table.entries (task_seen d.under) → P k.client (moment w) w.client (task_of w)
  in_world P commands w c d bytes shows course holds =
      subst (λ set. P set (moment w) w.client (task_of w)) (sym shows.fixed)
      (subst (λ n. P client_setting (TURN_OF_TIME * n) w.client (task_of w)) course.times
      (subst (λ h. P client_setting (TURN_OF_TIME * d.times) h (task_of w)) shows.entries
      (subst (λ u. P client_setting (TURN_OF_TIME * d.times) c.end.serving.table.entries (task_under u)) course.under holds)))

  -- what is under way then
  pub under_then : (commands : List Command) (w : World) (d : Course) (new : Option Under) (next : Option Tasked) → CourseShows commands d w
      → under_seen new ≡ under_with next (under_seen d.under) → under_seen new ≡ under_with next w.under
  under_then commands w d new next course is = is ∙ ap (under_with next) course.under

  -- A FRAME HAS COME TO THE CLIENT
  pub delivered_down : (commands : List Command) (w : World) (frame : List ℕ) (rest : List (List ℕ)) (c new : ClientState) (x y : Wiring) (d : Course) (under : Option Under)
      → ClientShows k c w.client w.fed_client → x ≡ wiring_of k (with_rest_down rest w) → CourseShows commands d w → ClientRests new
      → ClientHeard (TURN_OF_TIME * d.times) c.end.serving d.under new.end.serving under w.fed_client frame → WasFed Client new.end (w.fed_client ++ frame)
      → ClientMoves c x new y
      → ClientTurns k commands w (to_client frame rest) new y (record d { under = under; delivered = d.delivered + 1 })
  delivered_down commands w frame rest c new x y d under shows wires course rests hears fed moves =
      let v : World = with_task hears.next (with_frame_at_client w frame rest) in
      let after : List Entry = new.end.serving.table.entries in
      let now : ClientShows k new after (w.fed_client ++ frame) = client_moved c new x y w.client w.fed_client (w.fed_client ++ frame) shows moves rests.items fed in
      let goes = sent_since k Client (record v { client = after }) c.items new.items x y wires moves.out k.client v.client after (client_items c v.client w.fed_client shows)
      (client_items new after (w.fed_client ++ frame) now) in
      record {
        mid = with_wiring y (record v { client = after });
        turn = record {
          after = after;
          task = hears.next;
          hears = record {
            packets = hears.hears.packets;
            heard = hears.hears.heard;
            holds = in_world (λ set at h task. ClientTakes set at hears.hears.packets h task after hears.next) commands w c d w.fed_client shows course hears.hears.holds;
          };
          is = ap (finished k) (sym goes);
        };
        server = record { entries = refl; fed = refl };
        client = now;
        wires = wires_since k Client (record v { client = after }) c.items new.items x y wires moves.out;
        course = record {
          coming = course.coming;
          under = under_then commands w d under hears.next course hears.under;
          sessions = course.sessions;
          delivered = ap (λ n. n + 1) course.delivered;
          times = course.times;
          lines = course.lines;
        };
      }

  -- THE CALL UNDER WAY IS CANCELLED
  pub cancelled : (commands : List Command) (w : World) (call : ℕ) (c new : ClientState) (x y : Wiring) (d : Course)
      → ClientShows k c w.client w.fed_client → x ≡ wiring_of k w → CourseShows commands d w → ClientRests new
      → ClientSettles client_setting (TURN_OF_TIME * d.times) (adding c.end.serving.table.entries run_seat (Cancel call)) None new.end.serving.table.entries None
      → WasFed Client new.end w.fed_client → ClientMoves c x new y
      → ClientTurns k commands w (cancelling call) new y d
  cancelled commands w call c new x y d shows wires course rests settles fed moves =
      let after : List Entry = new.end.serving.table.entries in
      let now : ClientShows k new after w.fed_client = client_moved c new x y w.client w.fed_client w.fed_client shows moves rests.items fed in
      let goes = sent_since k Client (record w { client = after }) c.items new.items x y wires moves.out k.client w.client after (client_items c w.client w.fed_client shows)
      (client_items new after w.fed_client now) in
      record {
        mid = with_wiring y (record w { client = after });
        turn = record {
          after = after;
          settles = in_world (λ set at h task. ClientSettles set at (adding h run_seat (Cancel call)) None after None) commands w c d w.fed_client shows course settles;
          is = ap (finished k) (sym goes);
        };
        server = record { entries = refl; fed = refl };
        client = now;
        wires = wires_since k Client (record w { client = after }) c.items new.items x y wires moves.out;
        course = record {
          coming = course.coming;
          under = course.under;
          sessions = course.sessions;
          delivered = course.delivered;
          times = course.times;
          lines = course.lines;
        };
      }

  -- THE CLIENT IS ASKED A COMMAND
  pub client_of : (commands : List Command) (w : World) (rest : List Command) (c : ClientState) (d : Course) (tuning : Tuning) → ClientShows k c w.client w.fed_client
      → IsTuned k tuning → CourseShows commands d (with_coming rest w) → IsClientOf k w c d.sessions tuning (TURN_OF_TIME * d.times)
  client_of commands w rest c d tuning shows tuned course = record {
    setting = shows.fixed;
    entries = sym shows.entries;
    stored = ap (λ items. kept items k.client_store) (sym (client_items c w.client w.fed_client shows)) ∙ sym shows.stored;
    sessions = sym course.sessions;
    window = tuned.window;
    chunk = tuned.chunk;
    moment = ap (λ n. TURN_OF_TIME * n) (sym course.times);
  }

  starts_as : (w now : World) (rest : List Command) (command : Command) → IsAsked command → Asks k w command rest now → StartTurn k w command rest now
  starts_as w now rest (Close channel) asked asks = absurd asked
  starts_as w now rest (Read resource offset) asked asks = asks
  starts_as w now rest (Write resource offset) asked asks = asks
  starts_as w now rest (Echo bytes) asked asks = asks
  starts_as w now rest (Count n) asked asks = asks
  starts_as w now rest (Sum bytes) asked asks = asks
  starts_as w now rest (Chat bytes) asked asks = asks

  pub asked_so : (commands : List Command) (w : World) (command : Command) (rest : List Command) (c new : ClientState) (x y : Wiring) (d : Course) (under : Under) (sessions : ℕ)
      → IsAsked command → ClientShows k c w.client w.fed_client → x ≡ wiring_of k w → CourseShows commands d (with_coming rest w) → ClientRests new
      → ClientAsks k w command new.end.serving.table.entries under sessions → WasFed Client new.end w.fed_client → ClientMoves c x new y
      → ClientTurns k commands w (starting command rest) new y (record d { under = Some under; sessions = sessions })
  asked_so commands w command rest c new x y d under sessions asked shows wires course rests asks fed moves =
      let v : World = with_task asks.next (with_command w rest (starts k w command)) in
      let after : List Entry = new.end.serving.table.entries in
      let now : ClientShows k new after w.fed_client = client_moved c new x y w.client w.fed_client w.fed_client shows moves rests.items fed in
      let goes = sent_since k Client (record v { client = after }) c.items new.items x y wires moves.out k.client v.client after (client_items c v.client w.fed_client shows)
      (client_items new after w.fed_client now) in
      let mid : World = with_wiring y (record v { client = after }) in
      record {
        mid = mid;
        turn = starts_as w (finished k mid) rest command asked
            (record { after = after; task = asks.next; settles = asks.settles; is = ap (finished k) (sym goes) });
        server = record { entries = refl; fed = refl };
        client = now;
        wires = wires_since k Client (record v { client = after }) c.items new.items x y wires moves.out;
        course = record {
          coming = course.coming;
          under = asks.under;
          sessions = asks.sessions;
          delivered = course.delivered;
          times = course.times;
          lines = course.lines;
        };
      }
