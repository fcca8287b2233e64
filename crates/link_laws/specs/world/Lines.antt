-- How a turn ends: what is kept back goes on the link where that is empty, and the command under way ends with its line
-- where it has come to its end.
use Rattle.std.specs.Prelude.{ℕ, ◌&&◌, Bool, List, [], ◌∷◌, ◌++◌, flat_map, filter_map, length, slice_get, Option, Some, None, option_map, unwrap_or, if◌then◌else◌}
use Rattle.link_script.specs.declared.report.ReportLine.{ReportLine}
use Rattle.link_script.specs.declared.report.ReportLine.TheVariants as line
use Rattle.rpc_ids.specs.declared.status.Status.{Status}
use Rattle.rpc_ids.specs.declared.status.Status.TheVariants.{NotFound}
use Rattle.rpc_packet.specs.declared.call_name.CallName.{CallName}
use Rattle.rpc_handlers.specs.declared.event.Event.{Event}
use Rattle.rpc_handlers.specs.declared.event.Event.TheVariants.{Message}
use Rattle.rpc_journal.specs.Calls.{call_at, calls, end_of, same_name}
use Rattle.rpc_journal.specs.Effect.{Deed, Opening}
use Rattle.rpc_journal.specs.Entries.{made_from}
use Rattle.rpc_journal.specs.Items.{items_flushed}
use Rattle.rpc_journal.specs.Kinds.{is_empty}
use Rattle.transfer_client.specs.Read.{read_offset, read_rules}
use Rattle.transfer_client.specs.Write.{write_offset, write_rules}
use Rattle.link_laws.specs.world.Client.{events_run}
use Rattle.link_laws.specs.world.Committed.{committed}
use Rattle.link_script.specs.lossy.Link.{released}
use Rattle.link_laws.specs.world.World.{Plain, Setup, Tasked, Transfer, Under, World, calling, client_deeds, closing, lacking, reads, server_deeds, transferring, writes, echo, count, sum, chat}

-- nothing is on the link
abbrev pub is_still : World → Bool
is_still w = is_empty w.to_server.frames && is_empty w.to_client.frames

abbrev pub with_released : World → World
with_released w = if is_still w then record w { to_server = released w.to_server; to_client = released w.to_client } else w

abbrev pub transfer_end : Transfer → Option Status
transfer_end (reads d) = read_rules.end_of d
transfer_end (writes u) = write_rules.end_of u

-- the bytes of a message
abbrev pub message_in : Event → List (List ℕ)
message_in (Message payload) = payload ∷ []
message_in _ = []

-- the calls of this name, by rising number
abbrev pub calls_named : CallName → List Deed → List ℕ
calls_named name ds = made_from 0 (λ c o. same_name o.name name) (λ c o. c) (calls ds)

-- the line of a transfer that has ended so, with this length
abbrev pub line_telling : Transfer → Status → ℕ → ReportLine
line_telling (reads d) status size = line.Read d.resource (read_offset d) status size
line_telling (writes u) status size = line.Write u.resource (write_offset u) status size

module _ (k : Setup) (w : World) where
  -- what a session of the client's call has made whole in the client's store, and else 0
  abbrev pub length_read : Tasked → ℕ
  length_read t = unwrap_or (committed (items_flushed (client_deeds k w)) t.session t.call) 0

  -- the same in the server's store: of the calls there that have the name of the client's call, the first one that has
  abbrev pub length_written_by : ℕ → Option Opening → ℕ
  length_written_by session None = 0
  length_written_by session (Some o) =
      unwrap_or (slice_get (filter_map (committed (items_flushed (server_deeds k w)) session) (calls_named o.name (server_deeds k w))) 0) 0

  abbrev pub length_written : Tasked → ℕ
  length_written t = length_written_by t.session (call_at (client_deeds k w) t.call)

  -- the length that a transfer has made whole: at the client what was read, at the server what was written
  abbrev pub length_made : Tasked → Transfer → ℕ
  length_made t (reads d) = length_read t
  length_made t (writes u) = length_written t

  -- the line of a transfer that has ended so
  abbrev pub transfer_line : Tasked → Transfer → Status → ReportLine
  transfer_line t transfer status = line_telling transfer status (length_made t transfer)

  -- the messages that came to a call
  abbrev pub messages_run : ℕ → List (List ℕ)
  messages_run c = flat_map message_in (events_run k.client w.client c)

  -- the bytes of the first; to a call without a stream from the server no other comes
  abbrev pub bytes_run : ℕ → List ℕ
  bytes_run c = unwrap_or (slice_get (messages_run c) 0) []

  -- the line of a call that has ended so
  abbrev pub plain_line : Plain → ℕ → Status → ReportLine
  plain_line echo c status = line.Echo status (bytes_run c)
  plain_line count c status = line.Count status (length (messages_run c))
  plain_line sum c status = line.Sum status (bytes_run c)
  plain_line chat c status = line.Chat status (length (messages_run c))

  -- THE LINE OF THE COMMAND UNDER WAY, WHERE IT HAS ENDED: a transfer ends with its task, a plain call with its end in the
  -- client's history, a write without resource at once, and the closing of a channel where nothing is on the link
  abbrev pub line_of : Under → Option ReportLine
  line_of (transferring t) = option_map (transfer_line t t.transfer) (transfer_end t.transfer)
  line_of (lacking resource) = Some (line.Write resource 0 NotFound 0)
  line_of (calling plain c) = option_map (plain_line plain c) (end_of (client_deeds k w) c)
  line_of (closing channel ended) = if is_still w then Some (line.Close channel ended) else None

abbrev pub with_line : World → Option ReportLine → World
with_line w None = w
with_line w (Some told) = record w { under = None; lines = w.lines ++ told ∷ [] }

abbrev pub command_ended : Setup → World → Option Under → World
command_ended k w None = w
command_ended k w (Some under) = with_line w (line_of k w under)

-- the world behind a turn that has led to this one
abbrev pub finished : Setup → World → World
finished k w = command_ended k (with_released w) w.under
