-- What the arrival of a packet does at a client, by its type and the state of the call of its name.
use Rattle.std.specs.Prelude.{ℕ, not, ◌&&◌, [], ◌∷◌, List, Option, Some, if◌then◌else◌}
use Rattle.rpc_ids.specs.declared.method.MethodRef.{MethodRef}
use Rattle.rpc_ids.specs.declared.status.Status.TheVariants.{InvalidArgument, FailedPrecondition}
use Rattle.rpc_ids.specs.Status.{status_of}
use Rattle.rpc_packet.specs.declared.owned.Packet.{Packet}
use Rattle.rpc_packet.specs.declared.packet_type.PacketType.{PacketType}
use Rattle.rpc_packet.specs.declared.packet_type.PacketType.TheVariants.{ClientError, Response, ServerError, ServerStream}
use Rattle.rpc_channel.specs.Rising.{has_id}
use Rattle.rpc_handlers.specs.declared.event.Event.TheVariants.{Message}
use Rattle.rpc_journal.specs.declared.setting.Setting.{Setting}
use Rattle.rpc_journal.specs.Effect.{Effect, Deed}
use Rattle.rpc_journal.specs.Calls.{live_call}
use Rattle.rpc_journal.specs.Kinds.{is_okay, streams_down}
use Rattle.rpc_journal.specs.Rows.{Row, channels_in, method_named, both_effects, ends_call, puts_event, status_packet, packet_item, dropped_row, replied_row, queued_row, closed_row}

-- the live call ends with INVALID_ARGUMENT, and the server is told of it
abbrev pub refuses_stream : Packet → ℕ → Effect
refuses_stream p c =
    record (ends_call c InvalidArgument) { says = packet_item c (status_packet ClientError p.name InvalidArgument) ∷ [] }

-- SERVER_STREAM: the message waits, where the method has a server stream
abbrev pub server_stream_row : Packet → MethodRef → ℕ → Row
server_stream_row p m c = if streams_down m.kind then queued_row c (Message p.payload) else closed_row c (refuses_stream p c)

-- RESPONSE: the call ends; the payload of an OK waits before that, where the method has no server stream
abbrev pub response_row : Packet → MethodRef → ℕ → Row
response_row p m c =
    if is_okay (status_of p.status) && not (streams_down m.kind)
    then closed_row c (both_effects (puts_event c (Message p.payload)) (ends_call c (status_of p.status)))
    else closed_row c (ends_call c (status_of p.status))

-- SERVER_ERROR: the call ends
abbrev pub server_error_row : Packet → ℕ → Row
server_error_row p c = closed_row c (ends_call c (status_of p.status))

-- c is the live call of the packet's name, and m its method
abbrev pub live_row : PacketType → Packet → MethodRef → ℕ → Row
live_row ServerStream p m c = server_stream_row p m c
live_row Response p m c = response_row p m c
live_row ServerError p m c = server_error_row p c
live_row _ p m c = dropped_row

-- there is no live call of the packet's name
abbrev pub no_call_row : PacketType → Packet → Row
no_call_row ServerStream p = replied_row ClientError p FailedPrecondition
no_call_row _ p = dropped_row

abbrev pub call_row : Packet → Option MethodRef → Option ℕ → Row
call_row p (Some m) (Some c) = live_row p.ptype p m c
call_row p _ _ = no_call_row p.ptype p

-- the row of a packet at a client
abbrev pub client_row : Setting → List Deed → Packet → Row
client_row set ds p =
    if has_id (channels_in set ds) p.name.channel then call_row p (method_named set p.name) (live_call ds p.name)
    else dropped_row
