-- Which packets an endpoint takes.
use Rattle.std.specs.Prelude.{◌≡◌, ◌<◌, Option, Some, None, option_and_then, ◌==◌, if◌then◌else◌}
use Rattle.rpc_ids.specs.declared.method.Role.{Role}
use Rattle.rpc_ids.specs.declared.method.Role.TheVariants.{Server, Client}
use Rattle.rpc_packet.specs.declared.packet_type.PacketType.{PacketType}
use Rattle.rpc_packet.specs.Message.{Message}
use Rattle.rpc_packet.specs.PacketType.{type_number, type_of, receiver_of}

-- The endpoint takes the packet as one of this type: it receives that type, and channel, service and method have ids.
pub record Hears (role : Role) (m : Message) (t : PacketType) : Type 0 where
  pub number : type_number t ≡ m.ptype
  pub receiver : receiver_of t ≡ role
  pub channel : 0 < m.name.channel
  pub service : 0 < m.name.service
  pub method : 0 < m.name.method

-- the type, where its receiver has the role
abbrev pub if_received : Role → Role → PacketType → Option PacketType
if_received Server Server t = Some t
if_received Server Client t = None
if_received Client Server t = None
if_received Client Client t = Some t

-- the same, computed: the type as which the endpoint takes the packet, if it takes it
unfoldable pub heard_as : Role → Message → Option PacketType
heard_as role m =
    if m.name.channel == 0 then None
    else if m.name.service == 0 then None
    else if m.name.method == 0 then None
    else option_and_then (λ t. if_received role (receiver_of t) t) (type_of m.ptype)
