-- What the arrival of a packet does at a server, by its type and the state of the call of its name.
use Rattle.std.specs.Prelude.{ℕ, not, ◌||◌, List, Option, Some, None, if◌then◌else◌}
use Rattle.rpc_ids.specs.declared.method.MethodRef.{MethodRef}
use Rattle.rpc_ids.specs.declared.status.Status.{Status}
use Rattle.rpc_ids.specs.declared.status.Status.TheVariants.{Cancelled, InvalidArgument, NotFound, FailedPrecondition, Unavailable}
use Rattle.rpc_ids.specs.Status.{status_of}
use Rattle.rpc_packet.specs.declared.owned.Packet.{Packet}
use Rattle.rpc_packet.specs.declared.packet_type.PacketType.{PacketType}
use Rattle.rpc_packet.specs.declared.packet_type.PacketType.TheVariants.{Request, ClientStream, ClientError, ServerError, Completion}
use Rattle.rpc_channel.specs.Rising.{has_id}
use Rattle.rpc_handlers.specs.declared.event.Event.TheVariants.{Message, Completion as Completed}
use Rattle.rpc_journal.specs.declared.setting.Setting.{Setting}
use Rattle.rpc_journal.specs.Effect.{Deed}
use Rattle.rpc_journal.specs.Calls.{call_count, live_call}
use Rattle.rpc_journal.specs.Queues.{is_completed}
use Rattle.rpc_journal.specs.Kinds.{is_unary, streams_up}
use Rattle.rpc_journal.specs.Rows.{Row, channels_in, method_named, both_effects, ends_and_clears, opens_served, dropped_row, replied_row, queued_row, closed_row, opened_row}

-- CLIENT_ERROR: the live call ends with the packet's status, and its waiting events go
abbrev pub client_error_row : Packet → Option ℕ → Row
client_error_row p None = dropped_row
client_error_row p (Some c) = closed_row c (ends_and_clears c (status_of p.status))

-- REQUEST: a new call n; a live call of this name first ends with CANCELLED, without a packet
abbrev pub request_row : Packet → MethodRef → ℕ → Option ℕ → Row
request_row p m n None = opened_row n (opens_served p m n)
request_row p m n (Some c) = opened_row n (both_effects (ends_and_clears c Cancelled) (opens_served p m n))

-- CLIENT_STREAM: the message waits for the live call, where the method has a client stream that isn't complete
abbrev pub client_stream_row : Packet → MethodRef → List Deed → Option ℕ → Row
client_stream_row p m ds None = replied_row ServerError p FailedPrecondition
client_stream_row p m ds (Some c) =
    if not (streams_up m.kind) then replied_row ServerError p InvalidArgument
    else if is_completed ds c then replied_row ServerError p FailedPrecondition
    else queued_row c (Message p.payload)

-- CLIENT_REQUEST_COMPLETION: the live call is completed, once, where the method isn't unary
abbrev pub completion_row : Packet → MethodRef → List Deed → Option ℕ → Row
completion_row p m ds None = replied_row ServerError p FailedPrecondition
completion_row p m ds (Some c) = if is_unary m.kind || is_completed ds c then dropped_row else queued_row c Completed

-- the method is known, and l is the live call of the packet's name
abbrev pub known_row : PacketType → Packet → MethodRef → List Deed → Option ℕ → Row
known_row ClientError p m ds l = client_error_row p l
known_row Request p m ds l = request_row p m (call_count ds) l
known_row ClientStream p m ds l = client_stream_row p m ds l
known_row Completion p m ds l = completion_row p m ds l
known_row _ p m ds l = dropped_row

-- there is no such channel or method
abbrev pub unknown_row : PacketType → Packet → Status → Row
unknown_row ClientError p s = dropped_row
unknown_row _ p s = replied_row ServerError p s

abbrev pub method_row : Packet → List Deed → Option MethodRef → Row
method_row p ds None = unknown_row p.ptype p NotFound
method_row p ds (Some m) = known_row p.ptype p m ds (live_call ds p.name)

-- the row of a packet at a server
abbrev pub server_row : Setting → List Deed → Packet → Row
server_row set ds p =
    if has_id (channels_in set ds) p.name.channel then method_row p ds (method_named set p.name)
    else unknown_row p.ptype p Unavailable
