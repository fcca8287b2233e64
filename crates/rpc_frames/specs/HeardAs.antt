-- What a segment is to an end of this role.
use Rattle.std.specs.Prelude.{◌≡◌, true, false, Option, Some, None}
use Rattle.hdlc_frame.specs.Found.{FrameParts, Found}
use Rattle.hdlc_frame.specs.Found.Found.{fault, frame}
use Rattle.rpc_ids.specs.declared.method.Role.{Role}
use Rattle.rpc_packet.specs.declared.owned.Packet as owned
use Rattle.rpc_packet.specs.Hearing.{Hears}
use Rattle.rpc_packet.specs.Message.{lent_message}
use Rattle.rpc_frames.specs.declared.heard.Heard.{Heard}
use Rattle.rpc_frames.specs.declared.heard.Heard.TheVariants.{Fault, Other, Dropped, Packet}
use Rattle.rpc_frames.specs.Heard.{is_handled, heard_in_payload, packet_as}

-- the packet that was heard, if any
abbrev pub packet_in : Heard → Option owned.Packet
packet_in Fault = None
packet_in Other = None
packet_in Dropped = None
packet_in (Packet ptype packet) = Some (packet_as (lent_message packet) ptype)

-- what is heard in a frame
abbrev pub HearsInFrame : Role → FrameParts → Heard → Type 0
HearsInFrame role parts Fault = ⊥
HearsInFrame role parts Other = is_handled parts ≡ false
HearsInFrame role parts Dropped = (is_handled parts ≡ true) × (heard_in_payload role parts.payload ≡ None)
HearsInFrame role parts (Packet ptype packet) =
    (is_handled parts ≡ true) × (heard_in_payload role parts.payload ≡ Some (packet_as (lent_message packet) ptype)) ×
    Hears role (lent_message packet) ptype

-- and in a segment that carries a frame or a fault
abbrev pub HearsIn : Role → Found → Heard → Type 0
HearsIn role (fault bad) heard = heard ≡ Fault
HearsIn role (frame parts) heard = HearsInFrame role parts heard
