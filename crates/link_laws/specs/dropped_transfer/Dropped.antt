-- Which frames a link drops, and which words of a session are lost by that.
use Rattle.std.specs.Prelude.{◌≡◌, ℕ, suc, ◌==◌, ◌&&◌, Bool, true, false, if◌then◌else◌, List, [], ◌∷◌, codes, slice_get, Option, Some, is_some, Result, Ok, Err}
use Rattle.std.specs.List.{AllByRecursion}
use Rattle.link_script.specs.declared.loss.Loss.{Loss}
use Rattle.link_script.specs.declared.loss.Loss.TheVariants.{Lose}
use Rattle.link_script.specs.lossy.Link.{loss_of}
use Rattle.rpc_ids.specs.Names.{name_id}
use Rattle.rpc_packet.specs.declared.owned.Packet.{Packet}
use Rattle.transfer_chunk.specs.declared.ChunkType.{ChunkType}
use Rattle.transfer_chunk.specs.declared.ChunkType.TheVariants.{StartAckConfirmation}
use Rattle.transfer_chunk.specs.Chunk.{Chunk}
use Rattle.transfer_chunk.specs.ChunkTypes.{type_of}
use Rattle.transfer_chunk.specs.Reading.{chunk_of}
use Rattle.transfer_laws.specs.losses.Survives.{is_among}
use Rattle.link_laws.specs.world.Reports.{carries_chunk}
use Rattle.link_laws.specs.world.World.{Setup, World}
use Rattle.link_laws.specs.lossless_transfer.Chunks.{is_chunk_of}

abbrev pub IsDrop : Loss → Type 0
IsDrop Lose = Unit {0}
IsDrop _ = ⊥

abbrev pub AreDrops : List (ℕ × Loss) → Type 0
AreDrops losses = AllByRecursion (λ loss. IsDrop loss.1) losses

-- the frame with this number is dropped
abbrev pub is_dropped : Setup → ℕ → Bool
is_dropped k number = is_some (loss_of number k.losses)

-- the chunk is the START_ACK_CONFIRMATION of a session
abbrev pub is_confirmation_type : Option ChunkType → Bool
is_confirmation_type (Some StartAckConfirmation) = true
is_confirmation_type _ = false

abbrev pub is_confirmation : Result Chunk ℕ → Bool
is_confirmation (Ok c) = is_confirmation_type (type_of c)
is_confirmation (Err at) = false

-- the packet says the START_ACK_CONFIRMATION of a read
abbrev pub confirms_read : Packet → Bool
confirms_read p = (p.name.method == name_id (codes "Read")) && is_confirmation (chunk_of p.payload)

-- WHAT IS LOST IN A RUN: the script's losses are drops, as many as there are. Each frame that is dropped carries a chunk, and none of
-- them the START_ACK_CONFIRMATION of a read. The frame of the packet at place n has number n + 1.
pub record DropsChunks (k : Setup) (now : World) : Type 0 where
  pub drops : AreDrops k.losses
  pub chunks : (n : ℕ) (p : Packet) → slice_get now.numbered n ≡ Some p → is_dropped k (suc n) ≡ true → carries_chunk p ≡ true
  pub spares : (n : ℕ) (p : Packet) → slice_get now.numbered n ≡ Some p → is_dropped k (suc n) ≡ true → confirms_read p ≡ false

-- The words of a session have numbers, from 1 on, in the order of their frames. Behind so many frames, and so many words of the
-- session, those of these packets are lost whose frames are dropped.
abbrev pub lost_among : (Packet → Bool) → (ℕ → Bool) → ℕ → ℕ → List Packet → List ℕ
lost_among own dropped frames words [] = []
lost_among own dropped frames words (p ∷ ps) =
    if own p then (if dropped (suc frames) then suc words ∷ lost_among own dropped (suc frames) (suc words) ps else lost_among own dropped (suc frames) (suc words) ps)
    else lost_among own dropped (suc frames) words ps

-- the numbers of the words of this session that are lost in a run
abbrev pub lost_numbers : Setup → ℕ → World → List ℕ
lost_numbers k session far = lost_among (is_chunk_of session) (is_dropped k) 0 0 far.numbered

abbrev pub loses : Setup → ℕ → World → ℕ → Bool
loses k session far = is_among (lost_numbers k session far)
