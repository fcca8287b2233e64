-- What the computed answer of a reader says of the bytes.
use Rattle.std.proofs.Common.{◌≡◌, ℕ, List, Result, Ok, IfOk, IfErr}
use Rattle.proto_wire.specs.declared.fields.Malformed.{Malformed}
use Rattle.proto_wire.proofs.ReadsLaws.{fault_read, only_value, value_read}
use Rattle.rpc_packet.specs.declared.packet_ref.PacketRef.{PacketRef}
use Rattle.rpc_packet.specs.Message.{Message, lent_message}
use Rattle.rpc_packet.specs.Reading.{IsPacket, IsFaultAt, packet_of, seen}
use Rattle.rpc_packet.specs.Table.{packet_fields, message_in}

pub packet_found : (bytes : List ℕ) (answer : Result PacketRef Malformed) → seen answer ≡ packet_of bytes → IfOk answer (λ p. IsPacket bytes (lent_message p))
unfolding packet_of
packet_found bytes answer e = value_read lent_message packet_fields message_in bytes answer e

pub fault_found : (bytes : List ℕ) (answer : Result PacketRef Malformed) → seen answer ≡ packet_of bytes → IfErr answer (λ f. IsFaultAt bytes f.at)
unfolding packet_of
fault_found bytes answer e = fault_read lent_message packet_fields message_in bytes answer e

pub only_packet : (bytes : List ℕ) (m : Message) → IsPacket bytes m → packet_of bytes ≡ Ok m
unfolding packet_of
only_packet bytes m is = only_value packet_fields message_in bytes m is
