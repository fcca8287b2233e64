-- The end of a run, and what is told of it.
use Rattle.std.specs.Prelude.{◌≡◌, length, count_by, string_bytes}
use Rattle.link_io.specs.Resources.{lengths_of}
use Rattle.link_script.specs.text.Report.{report_text}
use Rattle.link_laws.specs.world.Reports.{carries_chunk, report_of}
use Rattle.link_laws.specs.world.Turns.{Ends, ending, next_kind}
use Rattle.link_laws.specs.world.World.{Setup, World, client_store, server_store}
use Rattle.link_world.specs.client.ClientSide.{ClientState}
use Rattle.link_world.specs.server.ServerSide.{ServerState}
use Rattle.link_laws.specs.world.Wiring.{Wiring}
use Rattle.link_world.specs.declared.course.Course.{Course}
use Rattle.link_world.specs.declared.outcome.Outcome.{Outcome}

-- the outcome is what both ends, the link and the course say
pub record Tells (s : ServerState) (c : ClientState) (x : Wiring) (d : Course) (outcome : Outcome) : Type 0 where
  pub report : outcome.report ≡ record {
    lines = d.lines;
    frames = length x.numbered;
    delivered = d.delivered;
    chunks = count_by carries_chunk x.numbered;
    server = lengths_of s.stored.full;
    client = lengths_of c.stored.full;
  }
  pub text : string_bytes outcome.text ≡ report_text outcome.report
  pub server : outcome.server.entries ≡ s.end.serving.table.entries
  pub client : outcome.client.entries ≡ c.end.serving.table.entries
  pub server_store : outcome.server_store.stored ≡ s.stored
  pub client_store : outcome.client_store.stored ≡ c.stored

-- where the end comes next, it leads to a world of which this is told
pub record LeadsToEnd (k : Setup) (w : World) (outcome : Outcome) : Type 0 where
  pub now : World
  pub ends : next_kind w ≡ ending → Ends k w now
  pub report : outcome.report ≡ report_of k now
  pub text : string_bytes outcome.text ≡ report_text (report_of k now)
  pub server : outcome.server.entries ≡ now.server
  pub client : outcome.client.entries ≡ now.client
  pub server_store : outcome.server_store.stored ≡ server_store k now
  pub client_store : outcome.client_store.stored ≡ client_store k now
