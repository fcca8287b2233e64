-- The laws of the definitions. Each is the contract of a public function of `laws`.
use Rattle.std.specs.Prelude.{◌≡◌, ◌↔◌, ℕ, ◌≤◌, List, [], ◌∷◌, ◌++◌, length, take, Option, Some}
use mathlib.Core.List.{IsPrefix}
use Rattle.hdlc_frame.specs.declared.octets.TheConstants.{FLAG, UI_CONTROL}
use Rattle.hdlc_frame.specs.Found.{FrameParts}
use Rattle.rpc_ids.specs.declared.method.Role.{Role}
use Rattle.rpc_packet.specs.declared.owned.Packet.{Packet}
use Rattle.rpc_packet.specs.Hearing.{Hears}
use Rattle.rpc_packet.specs.Message.{message_of}
use Rattle.rpc_packet.specs.Reading.{IsPacket}
use Rattle.rpc_frames.specs.declared.limits.TheConstants.{ADDRESS}
use Rattle.rpc_frames.specs.Heard.{counts_of, heard_in_frame, heard_packets}
use Rattle.rpc_frames.specs.Listening.{HasHeard, HearsMore, Listening, StopsAtSegment}
use Rattle.rpc_frames.specs.Written.{IsBetweenFrames, IsSendable, frame_of_packet, frames_of_packets}

-- in an empty stream
pub record NothingHeard : Type 0 where
  pub packets : (role : Role) → heard_packets role [] ≡ []
  pub counts : (role : Role) → counts_of role [] ≡ record { valid = 0; bad = 0; other = 0; dropped = 0 }

-- in more of a stream the same packets are heard first
abbrev pub HearsOn : Type 0
HearsOn = (role : Role) (stream bytes : List ℕ) → IsPrefix (heard_packets role stream) (heard_packets role (stream ++ bytes))

-- The frame that is written for a packet is heard as that packet, alone and behind any stream; its first flag may end
-- a segment there, its last one leaves no segment open.
pub record IsHeardBack (role : Role) (packet : Packet) : Type 0 where
  pub alone : heard_packets role (frame_of_packet (message_of packet)) ≡ packet ∷ []
  pub between :
      (stream : List ℕ) → IsBetweenFrames stream →
      heard_packets role (stream ++ frame_of_packet (message_of packet)) ≡ heard_packets role stream ++ packet ∷ []
  pub anywhere :
      (stream : List ℕ) →
      heard_packets role (stream ++ frame_of_packet (message_of packet)) ≡ heard_packets role (stream ++ FLAG ∷ []) ++ packet ∷ []
  pub closed : (stream : List ℕ) → IsBetweenFrames (stream ++ frame_of_packet (message_of packet))

-- The frames that are written for packets are heard as these packets, behind any stream that has no segment open.
pub record AreHeardBack (role : Role) (packets : List Packet) : Type 0 where
  pub alone : heard_packets role (frames_of_packets packets) ≡ packets
  pub between :
      (stream : List ℕ) → IsBetweenFrames stream →
      heard_packets role (stream ++ frames_of_packets packets) ≡ heard_packets role stream ++ packets
  pub closed : (stream : List ℕ) → IsBetweenFrames stream → IsBetweenFrames (stream ++ frames_of_packets packets)

-- A listener between frames takes the frame of a packet in one step, and gives the packet.
abbrev pub IsOneStep : Packet → Type 0
IsOneStep packet =
    (old new : Listening) (stream : List ℕ) (taken : ℕ) (heard : Option Packet) → HasHeard old stream → IsBetweenFrames stream →
    taken ≤ length (frame_of_packet (message_of packet)) → StopsAtSegment old (frame_of_packet (message_of packet)) taken →
    HearsMore old new (take taken (frame_of_packet (message_of packet))) heard → IsSendable old.role packet →
    (taken ≡ length (frame_of_packet (message_of packet))) × (heard ≡ Some packet)

-- A packet is heard in a frame: the frame is an unnumbered information frame to the address, its payload says this
-- packet, and the packet is of a type that the role receives, with ids that aren't 0.
pub record IsHeardIn (role : Role) (frame : FrameParts) (packet : Packet) : Type 0 where
  pub address : frame.address ≡ ADDRESS
  pub control : frame.control ≡ UI_CONTROL
  pub says : IsPacket frame.payload (message_of packet)
  pub hears : Hears role (message_of packet) packet.ptype

-- What `heard_in_frame` computes is that relation.
abbrev pub IsHeardExactly : Type 0
IsHeardExactly = (role : Role) (frame : FrameParts) (packet : Packet) → (heard_in_frame role frame ≡ Some packet) ↔ IsHeardIn role frame packet
