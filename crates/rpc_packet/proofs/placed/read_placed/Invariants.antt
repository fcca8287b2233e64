use Rattle.std.proofs.Common.{◌≡◌, ◌+◌, length}
use Rattle.std.specs.Prelude.{if◌then◌else◌}
use Rattle.proto_wire.specs.Places.{IsReadingOf, StandsAt}
use Rattle.proto_wire.specs.Reading.{unread}
use Rattle.rpc_packet.specs.Message.{Message}
use Rattle.rpc_packet.specs.Reading.{packet_of}
use Rattle.rpc_packet.specs.Steps.{read_on}
use Rattle.rpc_packet.proofs.placed.read_placed.Given as goal

-- what was said so far, and then by the fields that are unread, is what the bytes say
abbrev pub invariant-fields : goal.invariant-fields
invariant-fields l =
    let so_far : Message = record { ptype = l.packet.0; name = l.packet.1.0; payload = l.packet.1.1.0.now; status = l.packet.1.1.1.0 } in
    record {
      says : read_on (unread l.fields).fields (unread l.fields).fault so_far ≡ packet_of l.bytes;
      reading : IsReadingOf l.bytes l.fields;
      stands : StandsAt l.bytes so_far.payload l.payload_at;
    }

abbrev pub decreases-fields : goal.decreases-fields
decreases-fields l = if l.fields.failed then 0 else length l.fields.left + 1
