-- The number of a type is that of no other type.
use Rattle.std.proofs.Common.{◌≡◌, Some, refl}
use Rattle.rpc_packet.specs.declared.packet_type.PacketType.{PacketType}
use Rattle.rpc_packet.specs.declared.packet_type.PacketType.TheVariants.{Request, Response, ClientStream, ClientError, ServerError, ServerStream, Completion}
use Rattle.rpc_packet.specs.PacketType.{type_number, type_of}

pub type_back : (t : PacketType) → type_of (type_number t) ≡ Some t
type_back Request = refl
type_back Response = refl
type_back ClientStream = refl
type_back ClientError = refl
type_back ServerError = refl
type_back ServerStream = refl
type_back Completion = refl
