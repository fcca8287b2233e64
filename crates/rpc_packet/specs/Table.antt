-- The fields of the message RpcPacket, and what they say of a packet.
use Rattle.std.specs.Prelude.{ℕ, List, ◌==◌, if◌then◌else◌}
use Rattle.proto_wire.specs.Field.{WireField}
use Rattle.proto_wire.specs.Typed.{FieldType, Undeclared, Uint64, Uint32, FourBytes, SomeBytes, last_number, last_content}
use Rattle.rpc_packet.specs.Message.{Message}

-- How RpcPacket declares its fields: type, channel_id, service_id, method_id, payload, status, call_id.
-- The type may be any number, so that a packet of an unknown type is read.
abbrev pub packet_fields : ℕ → FieldType
packet_fields number =
    if number == 1 then Uint64
    else if number == 2 then Uint32
    else if number == 3 then FourBytes
    else if number == 4 then FourBytes
    else if number == 5 then SomeBytes
    else if number == 6 then Uint32
    else if number == 7 then Uint32
    else Undeclared

-- What the fields say: of each number the last field counts, and one that is missing is 0 or empty.
abbrev pub message_in : List WireField → Message
message_in fields = record {
  ptype = last_number 1 fields;
  name = record {
    channel = last_number 2 fields;
    service = last_number 3 fields;
    method = last_number 4 fields;
    call = last_number 7 fields;
  };
  payload = last_content 5 fields;
  status = last_number 6 fields;
}
