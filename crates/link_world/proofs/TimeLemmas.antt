-- Time passes in the world, and both inputs end.
use Rattle.std.proofs.Common.{◌≡◌, ℕ, ◌+◌, ◌*◌, List, Option, ap, sym, ◌∙◌, subst}
use Rattle.demo_services.specs.DemoRule.{demo_rule}
use Rattle.link_script.specs.declared.command.Command.{Command}
use Rattle.rpc_ids.specs.declared.method.Role.TheVariants.{Server, Client}
use Rattle.rpc_journal.specs.declared.entry.Entry.{Entry}
use Rattle.rpc_journal.specs.declared.entry.EntryKind.TheVariants.{Tick}
use Rattle.rpc_journal.specs.History.{adding}
use Rattle.rpc_schedule.specs.Schedule.{Settles, flush_seat}
use Rattle.rpc_schedule.specs.ends.EndState.{WasFed}
use Rattle.link_laws.specs.declared.world.limits.TheConstants.{TURN_OF_TIME}
use Rattle.link_laws.specs.world.Client.{ClientSettles}
use Rattle.link_laws.specs.world.Lines.{finished}
use Rattle.link_laws.specs.world.Turns.{later, timing}
use Rattle.link_laws.specs.world.World.{with_task, wiring_of, with_wiring, Setup, World, moment, with_server}
use Rattle.link_world.specs.declared.client.under.Under.{Under}
use Rattle.link_world.specs.client.ClientSide.{ClientMoves, ClientRests, ClientState, ClientWorks}
use Rattle.link_world.specs.server.ServerSide.{ServerMoves, ServerRests, ServerState}
use Rattle.link_laws.specs.world.Wiring.{Wiring}
use Rattle.link_world.specs.declared.course.Course.{Course}
use Rattle.link_world.specs.Making.{WorldTurns}
use Rattle.link_world.specs.Showing.{ClientShows, CourseShows, ServerShows}
use Rattle.link_world.proofs.ClientLemmas.{client_items, client_moved, in_world, under_then}
use Rattle.link_world.proofs.ServerLemmas.{items_by, moved_on, ruled}
use Rattle.link_world.proofs.WireLemmas.{sent_since, wires_since}

module _ (k : Setup) where
  pub later_shows : (commands : List Command) (d : Course) (w : World) → CourseShows commands d w → CourseShows commands (record d { times = d.times + 1 }) (later w)
  later_shows commands d w course = record {
    coming = course.coming;
    under = course.under;
    sessions = course.sessions;
    delivered = course.delivered;
    times = ap (λ n. n + 1) course.times;
    lines = course.lines;
  }

  -- the server is told of the moment of the world
  pub ticks_at : (P : ℕ → Type 0) (commands : List Command) (d : Course) (w : World) → CourseShows commands d w → P (TURN_OF_TIME * (d.times + 1)) → P (moment (later w))
  ticks_at P commands d w course holds = subst (λ n. P (TURN_OF_TIME * (n + 1))) course.times holds

  pub time_passed : (commands : List Command) (w : World) (s server : ServerState) (c client : ClientState) (x y z : Wiring) (d : Course) (under : Option Under)
      → ServerShows k s w.server w.fed_server → ClientShows k c w.client w.fed_client → x ≡ wiring_of k w → CourseShows commands d w
      → ClientRests client → ClientWorks (TURN_OF_TIME * (d.times + 1)) c.end.serving.table.entries d.under client.end.serving.table.entries under
      → WasFed Client client.end w.fed_client → ClientMoves c x client y → ServerRests server
      → Settles demo_rule s.end.serving.table.setting (adding s.end.serving.table.entries flush_seat (Tick (TURN_OF_TIME * (d.times + 1)))) server.end.serving.table.entries
      → WasFed Server server.end w.fed_server → ServerMoves s y server z
      → WorldTurns k commands w timing server client z (record d { under = under; times = d.times + 1 })
  time_passed commands w s server c client x y z d under shows shown wires course client_rests works client_fed client_moves rests settles fed moves =
      let v : World = with_task works.next (later w) in
      let first : List Entry = client.end.serving.table.entries in
      let after : List Entry = server.end.serving.table.entries in
      let now : ClientShows k client first w.fed_client = client_moved k c client x y w.client w.fed_client w.fed_client shown client_moves client_rests.items client_fed in
      let mid : World = with_wiring y (record v { client = first }) in
      let client_is = sent_since k Client (record v { client = first }) c.items client.items x y wires client_moves.out k.client v.client first (client_items k c v.client w.fed_client shown)
      (client_items k client first w.fed_client now) in
      let mid_wires : y ≡ wiring_of k mid = wires_since k Client (record v { client = first }) c.items client.items x y wires client_moves.out in
      let then : ServerShows k server after w.fed_server = moved_on k s server y z w.server w.fed_server w.fed_server shows moves rests.items fed in
      let server_is = sent_since k Server (record mid { server = after }) s.items server.items y z mid_wires moves.out k.server mid.server after (items_by k s mid.server w.fed_server shows)
      (items_by k server after w.fed_server then) in
      record {
        mid = with_wiring z (record mid { server = after });
        turn = record {
          client = first;
          task = works.next;
          polls = in_world k (λ set at h task. ClientSettles set at h task first works.next) commands (later w) c (record d { times = d.times + 1 }) w.fed_client shown
              (later_shows commands d w course) works.settles;
          server = after;
          ticks = ticks_at (λ at. Settles k.rule k.server (adding w.server flush_seat (Tick at)) after) commands d w course
              (ruled k (λ rule set h. Settles rule set (adding h flush_seat (Tick (TURN_OF_TIME * (d.times + 1)))) after) s w.server w.fed_server shows settles);
          is = ap (finished k) (sym (ap (λ q. with_server k q after) client_is ∙ server_is));
        };
        server = then;
        client = now;
        wires = wires_since k Server (record mid { server = after }) s.items server.items y z mid_wires moves.out;
        course = record {
          coming = course.coming;
          under = under_then k commands w d under works.next course works.under;
          sessions = course.sessions;
          delivered = course.delivered;
          times = ap (λ n. n + 1) course.times;
          lines = course.lines;
        };
      }
