-- What a packet says, apart from where its payload lies in memory.
use Rattle.std.specs.Prelude.{ℕ, List, take, drop}
use Rattle.rpc_packet.specs.declared.call_name.CallName.{CallName}
use Rattle.rpc_packet.specs.declared.owned.Packet.{Packet}
use Rattle.rpc_packet.specs.declared.packet_ref.PacketRef.{PacketRef}
use Rattle.rpc_packet.specs.declared.placed.PlacedPacket.{PlacedPacket}
use Rattle.rpc_packet.specs.PacketType.{type_number}

pub record Message : Type 0 where
  pub ptype : ℕ
  pub name : CallName
  pub payload : List ℕ
  pub status : ℕ

abbrev pub message_with : ℕ → CallName → List ℕ → ℕ → Message
message_with ptype name payload status = record { ptype = ptype; name = name; payload = payload; status = status }

abbrev pub message_of : Packet → Message
message_of p = record { ptype = type_number p.ptype; name = p.name; payload = p.payload; status = p.status }

abbrev pub lent_message : PacketRef → Message
lent_message p = record { ptype = p.ptype; name = p.name; payload = p.payload.now; status = p.status }

-- a packet whose payload stands in these bytes
abbrev pub placed_message : List ℕ → PlacedPacket → Message
placed_message bytes p = record { ptype = p.ptype; name = p.name; payload = take p.payload_len (drop p.payload_at bytes); status = p.status }
