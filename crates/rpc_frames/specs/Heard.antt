-- The packets that an end of a link hears in a stream, and how the segments of the stream are counted.
use Rattle.std.specs.Prelude.{ℕ, ◌==◌, ◌&&◌, not, Bool, List, length, count_by, if◌then◌else◌, Option, None, is_none, option_map, Result, Ok, Err}
use Rattle.std.specs.Io.Iter.{u64_saturate}
use Rattle.std.specs.List.{filter_map}
use Rattle.hdlc_frame.specs.declared.octets.TheConstants.{UI_CONTROL}
use Rattle.hdlc_frame.specs.Found.{FrameParts, valid_frames, faults_of}
use Rattle.rpc_ids.specs.declared.method.Role.{Role}
use Rattle.rpc_packet.specs.declared.owned.Packet.{Packet}
use Rattle.rpc_packet.specs.declared.packet_type.PacketType.{PacketType}
use Rattle.rpc_packet.specs.Hearing.{heard_as}
use Rattle.rpc_packet.specs.Message.{Message}
use Rattle.rpc_packet.specs.Reading.{packet_of}
use Rattle.rpc_frames.specs.declared.counts.Counts.{Counts}
use Rattle.rpc_frames.specs.declared.limits.TheConstants.{ADDRESS, LARGEST_CONTENT}

-- an unnumbered information frame with the address of frames that carry packets
abbrev pub is_handled : FrameParts → Bool
is_handled frame = (frame.address == ADDRESS) && (frame.control == UI_CONTROL)

-- the message as a packet of this type
abbrev pub packet_as : Message → PacketType → Packet
packet_as m ptype = record { ptype = ptype; name = m.name; payload = m.payload; status = m.status }

-- the packet that a reading gives, where an end of this role hears it
abbrev pub heard_message : Role → Result Message ℕ → Option Packet
heard_message role (Err at) = None
heard_message role (Ok m) = option_map (packet_as m) (heard_as role m)

-- the packet that is heard in a payload
abbrev pub heard_in_payload : Role → List ℕ → Option Packet
heard_in_payload role payload = heard_message role (packet_of payload)

-- the packet that is heard in a frame
abbrev pub heard_in_frame : Role → FrameParts → Option Packet
heard_in_frame role frame = if is_handled frame then heard_in_payload role frame.payload else None

-- a valid frame for somebody else
abbrev pub is_other : FrameParts → Bool
is_other frame = not (is_handled frame)

-- a frame for this end in which it hears nothing
abbrev pub is_dropped : Role → FrameParts → Bool
is_dropped role frame = is_handled frame && is_none (heard_in_payload role frame.payload)

-- the packets heard in the valid frames of a stream, in order
unfoldable pub heard_packets : Role → List ℕ → List Packet
heard_packets role stream = filter_map (heard_in_frame role) (valid_frames LARGEST_CONTENT stream)

-- How many segments of each kind the stream has, as far as a count goes: all valid frames, the segments with a fault,
-- the valid frames that aren't handled, and the handled ones in which nothing is heard.
unfoldable pub counts_of : Role → List ℕ → Counts
counts_of role stream = record {
  valid = u64_saturate (length (valid_frames LARGEST_CONTENT stream));
  bad = u64_saturate (length (faults_of LARGEST_CONTENT stream));
  other = u64_saturate (count_by is_other (valid_frames LARGEST_CONTENT stream));
  dropped = u64_saturate (count_by (is_dropped role) (valid_frames LARGEST_CONTENT stream));
}
