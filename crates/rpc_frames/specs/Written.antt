-- What is written for packets.
use Rattle.std.specs.Prelude.{◌≡◌, ◌⊎◌, ℕ, ◌≤◌, List, [], length, Some, None}
use Rattle.std.specs.List.{flat_map}
use Rattle.hdlc_frame.specs.Encoded.{encoded_ui, ui_content}
use Rattle.hdlc_frame.specs.Segments.{open_text}
use Rattle.rpc_ids.specs.declared.method.Role.{Role}
use Rattle.rpc_packet.specs.declared.owned.Packet.{Packet}
use Rattle.rpc_packet.specs.Hearing.{Hears}
use Rattle.rpc_packet.specs.Message.{Message, message_of}
use Rattle.rpc_packet.specs.Spelling.{IsWithinLimits, spelling_of}
use Rattle.rpc_frames.specs.declared.limits.TheConstants.{ADDRESS, LARGEST_CONTENT}

-- the one frame that carries a packet: its spelling between two flags, with address and check sequence
abbrev pub frame_of_packet : Message → List ℕ
frame_of_packet m = encoded_ui ADDRESS (spelling_of m)

-- the frames of packets, one after another
abbrev pub frames_of_packets : List Packet → List ℕ
frames_of_packets packets = flat_map (λ p. frame_of_packet (message_of p)) packets

-- the frame that carries a packet isn't too long for its receiver
abbrev pub FitsFrame : Message → Type 0
FitsFrame m = length (ui_content ADDRESS (spelling_of m)) ≤ LARGEST_CONTENT

-- a packet that an end of this role hears, in a frame that is not too long for it
pub record IsSendable (role : Role) (packet : Packet) : Type 0 where
  pub hears : Hears role (message_of packet) packet.ptype
  pub within : IsWithinLimits (message_of packet)
  pub fits : FitsFrame (message_of packet)

-- no segment is open that has octets: no flag came yet, or a flag came last
abbrev pub IsBetweenFrames : List ℕ → Type 0
IsBetweenFrames stream = (open_text stream ≡ None) ⊎ (open_text stream ≡ Some [])
