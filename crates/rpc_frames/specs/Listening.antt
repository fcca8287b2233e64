-- What a listener says of the stream that it has heard.
use Rattle.std.specs.Prelude.{◌≡◌, ℕ, ◌<◌, ◌≤◌, true, List, [], ◌∷◌, ◌++◌, length, take, Option, Some, is_some}
use Rattle.std.specs.Option.{option_to_list}
use Rattle.hdlc_frame.specs.Found.{Found, found}
use Rattle.hdlc_frame.specs.Machine.{HasRead, Reading}
use Rattle.rpc_ids.specs.declared.method.Role.{Role}
use Rattle.rpc_packet.specs.declared.owned.Packet.{Packet}
use Rattle.rpc_packet.specs.Hearing.{Hears}
use Rattle.rpc_packet.specs.Message.{message_of}
use Rattle.rpc_frames.specs.declared.counts.Counts.{Counts}
use Rattle.rpc_frames.specs.declared.limits.TheConstants.{LARGEST_CONTENT}
use Rattle.rpc_frames.specs.Heard.{counts_of, heard_packets}

-- a listener: the role of its end, what its decoder knows, and the counts
pub record Listening : Type 0 where
  pub role : Role
  pub reading : Reading
  pub counts : Counts

-- A listener keeps no stream. It has heard any stream that its decoder has read and whose segments its counts count.
pub record HasHeard (listener : Listening) (stream : List ℕ) : Type 0 where
  pub limit : listener.reading.limit ≡ LARGEST_CONTENT
  pub read : HasRead listener.reading stream
  pub counts : listener.counts ≡ counts_of listener.role stream

-- what some bytes do: the listener has then heard them too, and this packet, if any, is heard with the last of them
pub record HearsMore (old new : Listening) (bytes : List ℕ) (packet : Option Packet) : Type 0 where
  pub role : new.role ≡ old.role
  pub stands : (stream : List ℕ) → HasHeard old stream → HasHeard new (stream ++ bytes)
  pub heard :
      (stream : List ℕ) → HasHeard old stream →
      heard_packets old.role (stream ++ bytes) ≡ heard_packets old.role stream ++ option_to_list packet

-- The bytes taken of a piece end with the flag that ends the first segment in it, or are the whole piece.
pub record StopsAtSegment (old : Listening) (piece : List ℕ) (taken : ℕ) : Type 0 where
  pub none_before :
      (stream : List ℕ) → HasHeard old stream → (n : ℕ) → n < taken →
      found LARGEST_CONTENT (stream ++ take n piece) ≡ found LARGEST_CONTENT stream
  pub one_or_whole :
      (stream : List ℕ) → HasHeard old stream → taken < length piece →
      (one : Found) × (found LARGEST_CONTENT (stream ++ take taken piece) ≡ found LARGEST_CONTENT stream ++ one ∷ [])

-- There was no memory for a packet: it was heard with the last of the bytes taken, and is lost.
pub record LosesPacket (old new : Listening) (piece : List ℕ) : Type 0 where
  pub taken : ℕ
  pub packet : Packet
  pub some : 0 < taken
  pub within : taken ≤ length piece
  pub hears : Hears old.role (message_of packet) packet.ptype
  pub more : HearsMore old new (take taken piece) (Some packet)
  pub stops : StopsAtSegment old piece taken

-- No packet is heard in the bytes taken of a piece before the last of them, and the whole piece is taken where none is heard.
pub record StopsAtPacket (old : Listening) (piece : List ℕ) (taken : ℕ) (packet : Option Packet) : Type 0 where
  pub none_before :
      (stream : List ℕ) → HasHeard old stream → (n : ℕ) → n < taken →
      heard_packets old.role (stream ++ take n piece) ≡ heard_packets old.role stream
  pub one_or_whole : taken < length piece → is_some packet ≡ true

-- There was no memory for the first packet in a piece: it was heard with the last of the bytes taken, and is lost.
pub record LosesFirst (old new : Listening) (piece : List ℕ) : Type 0 where
  pub taken : ℕ
  pub packet : Packet
  pub within : taken ≤ length piece
  pub hears : Hears old.role (message_of packet) packet.ptype
  pub more : HearsMore old new (take taken piece) (Some packet)
  pub stops : StopsAtPacket old piece taken (Some packet)
