-- The one spelling that is written: fields by rising number, those that are 0 or empty left out.
use Rattle.std.specs.Prelude.{ℕ, ◌^◌, ◌<◌, List, [], ◌∷◌, length}
use Rattle.proto_wire.specs.Absent.{nonzero_varint, nonzero_fixed32, nonempty_bytes}
use Rattle.proto_wire.specs.Entries.{Entry, present, fields_text}
use Rattle.rpc_packet.specs.Message.{Message}

-- type, channel_id, service_id, method_id, payload, status, call_id
unfoldable pub packet_entries : Message → List Entry
packet_entries m =
    record { number = 1; value = nonzero_varint m.ptype } ∷
    record { number = 2; value = nonzero_varint m.name.channel } ∷
    record { number = 3; value = nonzero_fixed32 m.name.service } ∷
    record { number = 4; value = nonzero_fixed32 m.name.method } ∷
    record { number = 5; value = nonempty_bytes m.payload } ∷
    record { number = 6; value = nonzero_varint m.status } ∷
    record { number = 7; value = nonzero_varint m.name.call } ∷ []

-- the fields that are present, each in its shortest spelling
unfoldable pub spelling_of : Message → List ℕ
spelling_of m = fields_text (present (packet_entries m))

-- what a packet can say
pub record IsWithinLimits (m : Message) : Type 0 where
  pub ptype : m.ptype < 2 ^ 64
  pub channel : m.name.channel < 2 ^ 32
  pub service : m.name.service < 2 ^ 32
  pub method : m.name.method < 2 ^ 32
  pub call : m.name.call < 2 ^ 32
  pub payload : length m.payload < 2 ^ 64
  pub status : m.status < 2 ^ 32
