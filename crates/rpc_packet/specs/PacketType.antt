-- The packet types of pw_rpc: their numbers, and the role that receives them.
use Rattle.std.specs.Prelude.{ℕ, Option, Some, None, ◌==◌, if◌then◌else◌}
use Rattle.rpc_ids.specs.declared.method.Role.{Role}
use Rattle.rpc_ids.specs.declared.method.Role.TheVariants.{Server, Client}
use Rattle.rpc_packet.specs.declared.packet_type.PacketType.{PacketType}
use Rattle.rpc_packet.specs.declared.packet_type.PacketType.TheVariants.{Request, Response, ClientStream, ClientError, ServerError, ServerStream, Completion}

abbrev pub type_number : PacketType → ℕ
type_number Request = 0
type_number Response = 1
type_number ClientStream = 2
type_number ClientError = 4
type_number ServerError = 5
type_number ServerStream = 7
type_number Completion = 8

-- the type with this number; 3 and 6 belong to none
abbrev pub type_of : ℕ → Option PacketType
type_of n =
    if n == 0 then Some Request
    else if n == 1 then Some Response
    else if n == 2 then Some ClientStream
    else if n == 4 then Some ClientError
    else if n == 5 then Some ServerError
    else if n == 7 then Some ServerStream
    else if n == 8 then Some Completion
    else None

-- the role of the end that receives packets of this type
abbrev pub receiver_of : PacketType → Role
receiver_of Request = Server
receiver_of Response = Client
receiver_of ClientStream = Server
receiver_of ClientError = Server
receiver_of ServerError = Client
receiver_of ServerStream = Client
receiver_of Completion = Server
