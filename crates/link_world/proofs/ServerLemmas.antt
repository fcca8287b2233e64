-- What comes to the server, and goes out of it, in the world.
use Rattle.std.proofs.Common.{◌≡◌, ℕ, ◌+◌, List, ◌++◌, Option, Some, refl, ap, sym, ◌∙◌, subst}
use Rattle.demo_services.specs.DemoRule.{demo_rule}
use Rattle.link_script.specs.declared.command.Command.{Command}
use Rattle.link_script.specs.declared.command.Command.TheVariants.{Close}
use Rattle.rpc_ids.specs.declared.method.Role.TheVariants.{Server}
use Rattle.rpc_journal.specs.declared.entry.Entry.{Entry}
use Rattle.rpc_journal.specs.declared.setting.Setting.{Setting}
use Rattle.rpc_journal.specs.History.{history}
use Rattle.rpc_journal.specs.Items.{items_flushed}
use Rattle.rpc_handlers.specs.HandlerRule.{HandlerRule}
use Rattle.rpc_schedule.specs.Serving.{deeds}
use Rattle.rpc_schedule.specs.ends.EndState.{WasFed}
use Rattle.link_laws.specs.world.Lines.{finished}
use Rattle.link_laws.specs.world.Starts.{ended_by_close, starts, closed_by, with_command}
use Rattle.link_laws.specs.world.Turns.{starting, to_server, with_frame_at_server}
use Rattle.link_laws.specs.world.Hearing.{ServerTakes}
use Rattle.link_laws.specs.world.World.{Setup, World, closing, server_deeds, wiring_of, with_wiring}
use Rattle.link_world.specs.declared.client.under.Under.TheVariants.{Closing}
use Rattle.link_world.specs.server.ServerSide.{ServerHeard, ServerMoves, ServerRests, ServerState}
use Rattle.rpc_schedule.specs.Schedule.{Settles}
use Rattle.link_laws.specs.world.Wiring.{Wiring}
use Rattle.link_world.specs.declared.course.Course.{Course}
use Rattle.link_world.specs.Making.{ServerTurns, with_coming, with_rest_up}
use Rattle.link_world.specs.Showing.{CourseShows, ServerShows}
use Rattle.link_world.proofs.WireLemmas.{sent_since, wires_since}

module _ (k : Setup) where
  -- the items that have gone out, by the world's history
  pub items_by : (s : ServerState) (h : List Entry) (bytes : List ℕ) → ServerShows k s h bytes → s.items ≡ items_flushed (history k.server h)
  items_by s h bytes shows =
      shows.items ∙ (ap (λ set. items_flushed (history set s.end.serving.table.entries)) shows.setting
      ∙ ap (λ entries. items_flushed (history k.server entries)) shows.entries)

  -- the server has moved on
  pub moved_on : (s new : ServerState) (x y : Wiring) (h : List Entry) (bytes more : List ℕ) → ServerShows k s h bytes → ServerMoves s x new y
      → new.items ≡ items_flushed (deeds new.end.serving) → WasFed Server new.end more → ServerShows k new new.end.serving.table.entries more
  moved_on s new x y h bytes more shows moves items fed = record {
    rule = shows.rule;
    role = shows.role;
    setting = moves.setting ∙ shows.setting;
    entries = refl;
    items = items;
    fed = fed;
    stored = moves.kept k.server_store shows.stored;
  }

  -- what settles by the service's rule settles by that of the world
  pub ruled : (P : HandlerRule → Setting → List Entry → Type 0) (s : ServerState) (h : List Entry) (bytes : List ℕ) → ServerShows k s h bytes
      → P demo_rule s.end.serving.table.setting s.end.serving.table.entries → P k.rule k.server h
  ruled P s h bytes shows holds =
      subst (λ rule. P rule k.server h) (sym shows.rule)
      (subst (λ set. P demo_rule set h) shows.setting
      (subst (P demo_rule s.end.serving.table.setting) shows.entries holds))

  -- A FRAME HAS COME TO THE SERVER
  pub delivered_up : (commands : List Command) (w : World) (frame : List ℕ) (rest : List (List ℕ)) (s new : ServerState) (x y : Wiring) (d : Course)
      → ServerShows k s w.server w.fed_server → x ≡ wiring_of k (with_rest_up rest w) → CourseShows commands d w
      → ServerRests new → ServerHeard demo_rule s.end.serving new.end.serving w.fed_server frame → WasFed Server new.end (w.fed_server ++ frame)
      → ServerMoves s x new y
      → ServerTurns k commands w (to_server frame rest) new y (record d { delivered = d.delivered + 1 })
  delivered_up commands w frame rest s new x y d shows wires course rests hears fed moves =
      let v : World = with_frame_at_server w frame rest in
      let after : List Entry = new.end.serving.table.entries in
      let now : ServerShows k new after (w.fed_server ++ frame) = moved_on s new x y w.server w.fed_server (w.fed_server ++ frame) shows moves rests.items fed in
      let goes = sent_since k Server (record v { server = after }) s.items new.items x y wires moves.out k.server v.server after (items_by s v.server w.fed_server shows)
      (items_by new after (w.fed_server ++ frame) now) in
      record {
        mid = with_wiring y (record v { server = after });
        turn = record {
          after = after;
          hears = record {
            packets = hears.packets;
            heard = hears.heard;
            holds = ruled (λ rule set h. ServerTakes rule set hears.packets h after) s w.server w.fed_server shows hears.holds;
          };
          is = ap (finished k) (sym goes);
        };
        server = now;
        wires = wires_since k Server (record v { server = after }) s.items new.items x y wires moves.out;
        course = record {
          coming = course.coming;
          under = course.under;
          delivered = ap (λ n. n + 1) course.delivered;
          times = course.times;
          sessions = course.sessions;
          lines = course.lines;
        };
        client = record { entries = refl; fed = refl };
      }

  -- how many calls the closing of a channel ends
  pub ended_is : (w : World) (channel : ℕ) (s : ServerState) → ServerShows k s w.server w.fed_server
      → ended_by_close s.end.serving.table.setting (deeds s.end.serving) channel ≡ ended_by_close k.server (server_deeds k w) channel
  ended_is w channel s shows =
      let same : deeds s.end.serving ≡ server_deeds k w =
      ap (λ set. history set s.end.serving.table.entries) shows.setting ∙ ap (λ h. history k.server h) shows.entries in
      ap (λ set. ended_by_close set (deeds s.end.serving) channel) shows.setting
      ∙ ap (λ ds. ended_by_close k.server ds channel) same

  -- A CHANNEL IS CLOSED
  pub closed_so : (commands : List Command) (w : World) (channel : ℕ) (ended : Option ℕ) (rest : List Command) (s new : ServerState) (x y : Wiring) (d : Course)
      → ServerShows k s w.server w.fed_server → x ≡ wiring_of k w → CourseShows commands d (with_coming rest w) → ServerRests new
      → ended ≡ ended_by_close s.end.serving.table.setting (deeds s.end.serving) channel
      → Settles demo_rule s.end.serving.table.setting (closed_by channel ended s.end.serving.table.entries) new.end.serving.table.entries
      → WasFed Server new.end w.fed_server → ServerMoves s x new y
      → ServerTurns k commands w (starting (Close channel) rest) new y (record d { under = Some (Closing channel ended) })
  closed_so commands w channel ended rest s new x y d shows wires course rests counted settles fed moves =
      let counts : ended ≡ ended_by_close k.server (server_deeds k w) channel = counted ∙ ended_is w channel s shows in
      let v : World = with_command w rest (starts k w (Close channel)) in
      let after : List Entry = new.end.serving.table.entries in
      let now : ServerShows k new after w.fed_server = moved_on s new x y w.server w.fed_server w.fed_server shows moves rests.items fed in
      let goes = sent_since k Server (record v { server = after }) s.items new.items x y wires moves.out k.server v.server after (items_by s v.server w.fed_server shows)
      (items_by new after w.fed_server now) in
      record {
        mid = with_wiring y (record v { server = after });
        turn = record {
          after = after;
          settles = subst (λ count. Settles k.rule k.server (closed_by channel count w.server) after) counts
              (ruled (λ rule set h. Settles rule set (closed_by channel ended h) after) s w.server w.fed_server shows settles);
          is = ap (finished k) (sym goes);
        };
        server = now;
        client = record { entries = refl; fed = refl };
        wires = wires_since k Server (record v { server = after }) s.items new.items x y wires moves.out;
        course = record {
          coming = course.coming;
          under = ap (λ count. Some (closing channel count)) counts;
          sessions = course.sessions;
          delivered = course.delivered;
          times = course.times;
          lines = course.lines;
        };
      }
