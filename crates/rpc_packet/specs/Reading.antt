-- What the bytes of a packet say, or where they are at fault.
use Rattle.std.specs.Prelude.{ℕ, List, Result}
use Rattle.proto_wire.specs.declared.fields.Malformed.{Malformed}
use Rattle.proto_wire.specs.Reads.{Reads, IsAtFault, answered, value_of}
pub use Rattle.proto_wire.specs.Reads.{unless_fault}
use Rattle.rpc_packet.specs.declared.packet_ref.PacketRef.{PacketRef}
use Rattle.rpc_packet.specs.Message.{Message, lent_message}
use Rattle.rpc_packet.specs.Table.{packet_fields, message_in}

-- The bytes are read as fields, all as RpcPacket declares them, and this is what they say.
abbrev pub IsPacket : List ℕ → Message → Type 0
IsPacket bytes m = Reads packet_fields message_in bytes m

-- At this offset, and at none before, a field isn't as RpcPacket declares it, or none can be read.
abbrev pub IsFaultAt : List ℕ → ℕ → Type 0
IsFaultAt bytes at = IsAtFault packet_fields bytes at

-- what the bytes say, or the offset of their first fault
unfoldable pub packet_of : List ℕ → Result Message ℕ
packet_of bytes = value_of packet_fields message_in bytes

-- the answer of a reader, apart from where the payload lies in memory
abbrev pub seen : Result PacketRef Malformed → Result Message ℕ
seen answer = answered lent_message answer
