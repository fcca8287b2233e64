-- A START: what the client does as a command starts, or the server as a channel is closed, what is under way then, and where an entry
-- of it has no room.
use Rattle.std.specs.Prelude.{◌≡◌, ℕ, ◌+◌, ◌==◌, ◌&&◌, ◌||◌, ◌⊎◌, not, Bool, true, false, min, List, [], ◌∷◌, ◌++◌, codes, fold, length, map, Option, Some, None, unwrap_or, if◌then◌else◌}
use Rattle.link_io.specs.Resources.{found}
use Rattle.link_script.specs.declared.command.Command.{Command}
use Rattle.link_script.specs.declared.command.Command.TheVariants.{Read, Write, Echo, Count, Sum, Chat, Close}
use Rattle.rpc_ids.specs.Names.{name_id}
use Rattle.rpc_packet.specs.declared.call_name.CallName.{CallName}
use Rattle.rpc_packet.specs.declared.owned.Packet.{Packet}
use Rattle.rpc_packet.specs.declared.packet_type.PacketType.TheVariants.{Request}
use Rattle.rpc_handlers.specs.declared.answer.Out.TheVariants.{Say as Message}
use Rattle.rpc_handlers.specs.HandlerRule.{empty_memo}
use Rattle.rpc_journal.specs.declared.entry.Entry.{Entry}
use Rattle.rpc_journal.specs.declared.entry.EntryKind.{EntryKind}
use Rattle.rpc_journal.specs.declared.entry.EntryKind.TheVariants.{Invoke, Say, Done}
use Rattle.rpc_journal.specs.declared.entry.EntryKind.TheVariants as entry
use Rattle.rpc_journal.specs.declared.setting.Setting.{Setting}
use Rattle.rpc_journal.specs.Calls.{call_count, calls, has_end}
use Rattle.rpc_journal.specs.Effect.{Deed, Opening}
use Rattle.rpc_journal.specs.Entries.{close_effect, made_from}
use Rattle.rpc_journal.specs.History.{adding}
use Rattle.rpc_journal.specs.Refusals.{is_full}
use Rattle.rpc_journal.specs.Rows.{channels_in}
use Rattle.rpc_channel.specs.Rising.{has_id}
use Rattle.rpc_schedule.specs.Schedule.{Settles, run_seat}
use Rattle.demo_services.specs.Methods.{demo_id, transfer_id}
use Rattle.transfer_client.specs.Read.{new_download}
use Rattle.transfer_client.specs.Write.{new_upload}
use Rattle.link_laws.specs.world.Client.{ClientSettles}
use Rattle.link_laws.specs.world.Lines.{finished}
use Rattle.link_laws.specs.world.Stops.{ClientStops, ServerStops}
use Rattle.link_laws.specs.world.World.{Setup, Tasked, Transfer, Under, World, Plain, calling, client_deeds, client_store, closing, lacking, moment, reads, server_deeds, task_under, transferring, with_client, with_server, with_task, writes, echo, count, sum, chat}

-- these entries of the client's owner, in order
abbrev pub all_added : List EntryKind → List Entry → List Entry
all_added kinds h = fold (λ before kind. adding before run_seat kind) h kinds

-- all calls are on channel 1, and have the ids from 1 on in the order of their openings
abbrev pub next_name : ℕ → ℕ → List Deed → CallName
next_name service method ds = record { channel = 1; service = service; method = method; call = call_count ds + 1 }

abbrev pub request : CallName → List ℕ → Packet
request name payload = record { ptype = Request; name = name; payload = payload; status = 0 }

abbrev pub opens_with : ℕ → ℕ → List ℕ → List Deed → EntryKind
opens_with service method payload ds = Invoke (request (next_name service method ds) payload) empty_memo

-- c is a call of this method of the transfer service
abbrev pub is_transfer_by : ℕ → Opening → Bool
is_transfer_by method o = (o.name.service == transfer_id) && (o.name.method == method)

-- the live calls of this method of the transfer service, by rising number
abbrev pub live_transfers : ℕ → List Deed → List ℕ
live_transfers method ds = made_from 0 (λ c o. is_transfer_by method o && not (has_end ds c)) (λ c o. c) (calls ds)

-- what starts: what the client's owner adds, what is under way then, and how many sessions were begun
pub record Started : Type 0 where
  pub adds : List EntryKind
  pub under : Under
  pub sessions : ℕ

-- nothing is asked of the client
abbrev pub unasked : World → Under → Started
unasked w under = record { adds = []; under = under; sessions = w.sessions }

-- a transfer begins its session in the live call of its method, or else in a new one
abbrev pub transfer_by : World → List ℕ → EntryKind → ℕ → Transfer → Started
transfer_by w [] opening next t = record {
  adds = opening ∷ [];
  under = transferring (record { call = next; session = w.sessions + 1; transfer = t });
  sessions = w.sessions + 1;
}
transfer_by w (c ∷ cs) opening next t = record {
  adds = [];
  under = transferring (record { call = c; session = w.sessions + 1; transfer = t });
  sessions = w.sessions + 1;
}

-- how many calls end where a channel is closed, if that is in
abbrev pub ended_by_close : Setting → List Deed → ℕ → Option ℕ
ended_by_close set ds channel = if has_id (channels_in set ds) channel then Some (length (close_effect set.role ds channel).ends) else None

module _ (k : Setup) (w : World) where
  abbrev pub starts_transfer : List ℕ → Transfer → Started
  starts_transfer method t =
      let ds = client_deeds k w in
      transfer_by w (live_transfers (name_id method) ds) (opens_with transfer_id (name_id method) [] ds) (call_count ds) t

  -- how much is left of a resource at the client
  abbrev pub left_length : ℕ → ℕ
  left_length resource = length (unwrap_or (found resource (client_store k w).left) [])

  -- a read asks from what is left there on, or from the offset, where that is less
  abbrev pub starts_read : ℕ → ℕ → Started
  starts_read resource offset =
      starts_transfer (codes "Read") (reads (new_download resource (min offset (left_length resource)) k.window k.chunk))

  -- a write of a resource that the client has asks from the offset on, or from its end
  abbrev pub starts_write : ℕ → ℕ → Option (List ℕ) → Started
  starts_write resource offset None = unasked w (lacking resource)
  starts_write resource offset (Some bytes) =
      starts_transfer (codes "Write") (writes (new_upload resource bytes (min offset (length bytes))))

  -- a call of demo.Demo opens with this payload, and then sends each of these bytes as a message and ends its stream,
  -- where it has one
  abbrev pub message_kinds : Option (List ℕ) → List EntryKind
  message_kinds None = []
  message_kinds (Some bytes) =
      let c = call_count (client_deeds k w) in
      map (λ byte. Say c (Message (byte ∷ []))) bytes ++ Done c ∷ []

  abbrev pub starts_plain : Plain → List ℕ → List ℕ → Option (List ℕ) → Started
  starts_plain plain method payload messages = record {
    adds = opens_with demo_id (name_id method) payload (client_deeds k w) ∷ message_kinds messages;
    under = calling plain (call_count (client_deeds k w));
    sessions = w.sessions;
  }

  -- THE DEFINITION OF A START
  abbrev pub starts : Command → Started
  starts (Read resource offset) = starts_read resource offset
  starts (Write resource offset) = starts_write resource offset (found resource (client_store k w).full)
  starts (Echo bytes) = starts_plain echo (codes "Echo") bytes None
  starts (Count n) = starts_plain count (codes "Count") (n ∷ []) None
  starts (Sum bytes) = starts_plain sum (codes "Sum") [] (Some bytes)
  starts (Chat bytes) = starts_plain chat (codes "Chat") [] (Some bytes)
  starts (Close channel) = unasked w (closing channel (ended_by_close k.server (server_deeds k w) channel))

-- a command is under way
abbrev pub with_command : World → List Command → Started → World
with_command w rest s = record w { coming = rest; under = Some s.under; sessions = s.sessions }

-- The client starts a command: its owner adds the entries of the start, and it does its work; the task of a transfer is
-- polled for the first time.
pub record Asks (k : Setup) (w : World) (command : Command) (rest : List Command) (now : World) : Type 0 where
  pub after : List Entry
  pub task : Option Tasked
  pub settles :
      ClientSettles k.client (moment w) (all_added (starts k w command).adds w.client) (task_under (Some (starts k w command).under)) after task
  pub is : now ≡ finished k (with_client k (with_task task (with_command w rest (starts k w command))) after)

-- the server's entry where it closes a channel; one that isn't in is refused
abbrev pub closed_by : ℕ → Option ℕ → List Entry → List Entry
closed_by channel None h = h
closed_by channel (Some ended) h = adding h run_seat (entry.Close channel)

-- The server closes a channel, and settles.
pub record Closes (k : Setup) (w : World) (channel : ℕ) (rest : List Command) (now : World) : Type 0 where
  pub after : List Entry
  pub settles : Settles k.rule k.server (closed_by channel (ended_by_close k.server (server_deeds k w) channel) w.server) after
  pub is : now ≡ finished k (with_server k (with_command w rest (starts k w (Close channel))) after)

abbrev pub StartTurn : Setup → World → Command → List Command → World → Type 0
StartTurn k w (Close channel) rest now = Closes k w channel rest now
StartTurn k w command rest now = Asks k w command rest now

-- of the entries of a start one has no room
abbrev pub adding_stops : List EntryKind → List Entry → Bool
adding_stops [] h = false
adding_stops (kind ∷ kinds) h = is_full h || adding_stops kinds (adding h run_seat kind)

-- the client comes to one as it starts a command
abbrev pub AskingStops : Setup → World → Command → Type 0
AskingStops k w command =
    (adding_stops (starts k w command).adds w.client ≡ true)
    ⊎ ClientStops k.client (moment w) (all_added (starts k w command).adds w.client) (task_under (Some (starts k w command).under))

-- a channel that isn't in is refused only where there is room for the entry
abbrev pub ClosingStops : Setup → World → ℕ → Type 0
ClosingStops k w channel =
    (is_full w.server ≡ true) ⊎ ServerStops k.rule k.server (closed_by channel (ended_by_close k.server (server_deeds k w) channel) w.server)

abbrev pub StartStops : Setup → World → Command → Type 0
StartStops k w (Close channel) = ClosingStops k w channel
StartStops k w command = AskingStops k w command
