-- The end of a run in the world.
use Rattle.std.proofs.Common.{◌≡◌, ℕ, ◌*◌, List, length, None, ap, sym, ◌∙◌}
use Rattle.demo_services.specs.DemoRule.{demo_rule}
use Rattle.std.specs.Prelude.{count_by}
use Rattle.link_io.specs.Resources.{lengths_of}
use Rattle.link_io.specs.Stored.{Stored}
use Rattle.link_script.specs.declared.report.Report.{Report}
use Rattle.link_script.specs.declared.report.ReportLine.{ReportLine}
use Rattle.link_script.specs.declared.command.Command.{Command}
use Rattle.rpc_journal.specs.declared.entry.Entry.{Entry}
use Rattle.rpc_journal.specs.declared.entry.EntryKind.TheVariants.{EndIn}
use Rattle.rpc_journal.specs.History.{adding, history}
use Rattle.rpc_journal.specs.Items.{items_flushed}
use Rattle.rpc_schedule.specs.Kept.{kept}
use Rattle.rpc_schedule.specs.Schedule.{Settles, input_seat}
use Rattle.rpc_schedule.specs.Serving.{deeds}
use Rattle.link_laws.specs.declared.world.limits.TheConstants.{TURN_OF_TIME}
use Rattle.link_laws.specs.world.Client.{ClientSettles}
use Rattle.link_script.specs.text.Report.{report_text}
use Rattle.link_laws.specs.world.Reports.{carries_chunk, report_of}
use Rattle.link_laws.specs.world.Setup.{client_setting}
use Rattle.link_laws.specs.world.World.{Setup, World, client_store, server_store, with_client, with_server, wiring_of, with_wiring}
use Rattle.link_world.specs.client.ClientSide.{ClientMoves, ClientState}
use Rattle.link_world.specs.server.ServerSide.{ServerMoves, ServerState}
use Rattle.link_laws.specs.world.Wiring.{Wiring}
use Rattle.link_world.specs.declared.course.Course.{Course}
use Rattle.link_world.specs.declared.outcome.Outcome.{Outcome}
use Rattle.link_world.specs.Over.{LeadsToEnd, Tells}
use Rattle.link_world.specs.Showing.{ClientShows, ServerShows, Shows}
use Rattle.link_world.proofs.ClientLemmas.{client_items, in_world}
use Rattle.link_world.proofs.ServerLemmas.{items_by, ruled}
use Rattle.link_world.proofs.WireLemmas.{sent_since, wires_since}
use Rattle.rpc_ids.specs.declared.method.Role.TheVariants.{Server, Client}

abbrev reported : List ReportLine → ℕ → ℕ → ℕ → Stored → Stored → Report
reported lines frames delivered chunks server client = record {
  lines = lines;
  frames = frames;
  delivered = delivered;
  chunks = chunks;
  server = lengths_of server.full;
  client = lengths_of client.full;
}

module _ (k : Setup) (commands : List Command) (w : World) where
  server_items : (s server : ServerState) (x y : Wiring) → ServerShows k s w.server w.fed_server → ServerMoves s x server y
      → server.items ≡ items_flushed (deeds server.end.serving) → server.items ≡ items_flushed (history k.server server.end.serving.table.entries)
  server_items s server x y shows moves items =
      items ∙ ap (λ set. items_flushed (history set server.end.serving.table.entries)) (moves.setting ∙ shows.setting)

  last_items : (c client : ClientState) (x y : Wiring) → ClientShows k c w.client w.fed_client → ClientMoves c x client y
      → client.items ≡ items_flushed (deeds client.end.serving) → client.items ≡ items_flushed (history k.client client.end.serving.table.entries)
  last_items c client x y shows moves items =
      items ∙ ap (λ set. items_flushed (history set client.end.serving.table.entries)) (moves.setting ∙ (shows.setting ∙ sym shows.fixed))

  pub ends_as : (s server : ServerState) (c client : ClientState) (x y z : Wiring) (d : Course) (outcome : Outcome) → Shows k commands s c x d w
      → Settles demo_rule s.end.serving.table.setting (adding s.end.serving.table.entries input_seat EndIn) server.end.serving.table.entries
      → ServerMoves s x server y → server.items ≡ items_flushed (deeds server.end.serving)
      → ClientSettles client_setting (TURN_OF_TIME * d.times) (adding c.end.serving.table.entries input_seat EndIn) None client.end.serving.table.entries None
      → ClientMoves c y client z → client.items ≡ items_flushed (deeds client.end.serving)
      → Tells server client z d outcome → LeadsToEnd k w outcome
  ends_as s server c client x y z d outcome shows settles moves items client_settles client_moves last tells =
      let after : List Entry = server.end.serving.table.entries in
      let then : List Entry = client.end.serving.table.entries in
      let mid : World = with_wiring y (record w { server = after }) in
      let now : World = with_wiring z (record mid { client = then }) in
      let server_is : with_server k w after ≡ mid =
      sent_since k Server (record w { server = after }) s.items server.items x y shows.wires moves.out k.server w.server after (items_by k s w.server w.fed_server shows.server)
      (server_items s server x y shows.server moves items) in
      let mid_wires : y ≡ wiring_of k mid = wires_since k Server (record w { server = after }) s.items server.items x y shows.wires moves.out in
      let client_is : with_client k mid then ≡ now =
      sent_since k Client (record mid { client = then }) c.items client.items y z mid_wires client_moves.out k.client mid.client then (client_items k c w.client w.fed_client shows.client)
      (last_items c client y z shows.client client_moves last) in
      let server_stored : server.stored ≡ server_store k now =
      moves.kept k.server_store shows.server.stored ∙ ap (λ all. kept all k.server_store) (server_items s server x y shows.server moves items) in
      let client_stored : client.stored ≡ client_store k now =
      client_moves.kept k.client_store shows.client.stored ∙ ap (λ all. kept all k.client_store) (last_items c client y z shows.client client_moves last) in
      let chunks : ℕ = count_by carries_chunk z.numbered in
      let report_is : outcome.report ≡ report_of k now =
      tells.report ∙ (ap (λ lines. reported lines (length z.numbered) d.delivered chunks server.stored client.stored) shows.course.lines
      ∙ (ap (λ n. reported w.lines (length z.numbered) n chunks server.stored client.stored) shows.course.delivered
      ∙ (ap (λ st. reported w.lines (length z.numbered) w.delivered chunks st client.stored) server_stored
      ∙ ap (λ st. reported w.lines (length z.numbered) w.delivered chunks (server_store k now) st) client_stored))) in
      record {
        now = now;
        ends = λ is_last. record {
          is_last = is_last;
          server = after;
          server_settles = ruled k (λ rule set h. Settles rule set (adding h input_seat EndIn) after) s w.server w.fed_server shows.server settles;
          client = then;
          client_settles = in_world k (λ set at h task. ClientSettles set at (adding h input_seat EndIn) None then None) commands w c d w.fed_client shows.client shows.course client_settles;
          is = sym (ap (λ v. with_client k v then) server_is ∙ client_is);
        };
        report = report_is;
        text = tells.text ∙ ap report_text report_is;
        server = tells.server;
        client = tells.client;
        server_store = tells.server_store ∙ server_stored;
        client_store = tells.client_store ∙ client_stored;
      }
