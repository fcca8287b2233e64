-- What a packet for C says.
use Rattle.std.specs.Prelude.{ℕ, List}
use Rattle.rpc_packet.specs.declared.placed.PlacedPacket.{PlacedPacket}
use Rattle.rpc_packet.specs.declared.call_name.CallName.{CallName}
use Rattle.rpc_packet.specs.Message.{Message, message_with}
use Rattle.c_codec.specs.declared.packet.KfPacket.{KfPacket}

abbrev pub name_at : KfPacket → CallName
name_at p = record { channel = p.channel; service = p.service; method = p.method; call = p.call }

-- a packet that was read
abbrev pub packet_placed : KfPacket → PlacedPacket
packet_placed p =
    record { ptype = p.ptype; name = name_at p; payload_at = p.payload_at; payload_len = p.payload_len; status = p.status }

-- a packet that is written with this payload
abbrev pub packet_with : KfPacket → List ℕ → Message
packet_with p payload = message_with p.ptype (name_at p) payload p.status
