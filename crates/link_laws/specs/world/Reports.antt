-- What is told of a run.
use Rattle.std.specs.Prelude.{◌==◌, ◌&&◌, Bool, length, count_by}
use Rattle.link_io.specs.Resources.{lengths_of}
use Rattle.link_script.specs.declared.report.Report.{Report}
use Rattle.rpc_packet.specs.declared.owned.Packet.{Packet}
use Rattle.history_laws.specs.messages.Messages.{is_stream}
use Rattle.demo_services.specs.Methods.{transfer_id}
use Rattle.link_laws.specs.world.World.{Setup, World, client_store, server_store}

-- a message of the transfer service is a chunk
abbrev pub carries_chunk : Packet → Bool
carries_chunk p = is_stream p.ptype && (p.name.service == transfer_id)

-- THE REPORT OF A WORLD
abbrev pub report_of : Setup → World → Report
report_of k w = record {
  lines = w.lines;
  frames = length w.numbered;
  delivered = w.delivered;
  chunks = count_by carries_chunk w.numbered;
  server = lengths_of (server_store k w).full;
  client = lengths_of (client_store k w).full;
}
