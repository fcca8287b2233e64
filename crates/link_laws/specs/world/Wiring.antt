-- Both directions of a link, and what becomes of the packets that go out of an end.
use Rattle.std.specs.Prelude.{ℕ, ◌+◌, List, [], ◌∷◌, ◌++◌, fold, length, Option}
use Rattle.link_script.specs.declared.loss.Loss.{Loss}
use Rattle.link_script.specs.lossy.Link.{Link, loss_of, put}
use Rattle.rpc_ids.specs.declared.method.Role.{Role}
use Rattle.rpc_ids.specs.declared.method.Role.TheVariants.{Server, Client}
use Rattle.rpc_packet.specs.declared.owned.Packet.{Packet}
use Rattle.rpc_packet.specs.Message.{message_of}
use Rattle.rpc_frames.specs.Written.{frame_of_packet}

-- what is done to frames, by their numbers; both directions; and the packets whose frames were numbered, in order: the first one
-- has number 1
pub record Wiring : Type 0 where
  pub losses : List (ℕ × Loss)
  pub to_server : Link
  pub to_client : Link
  pub numbered : List Packet

-- what is done to the frame that is numbered next
abbrev pub next_loss : Wiring → Option Loss
next_loss x = loss_of (length x.numbered + 1) x.losses

-- a packet goes out at the end of this role: its frame is numbered, and put on the link to the other end
abbrev pub with_sent : Role → Wiring → Packet → Wiring
with_sent Server x p = record x { numbered = x.numbered ++ p ∷ []; to_client = put (next_loss x) (frame_of_packet (message_of p)) x.to_client }
with_sent Client x p = record x { numbered = x.numbered ++ p ∷ []; to_server = put (next_loss x) (frame_of_packet (message_of p)) x.to_server }

-- these go out there, in order
abbrev pub with_all_sent : Role → List Packet → Wiring → Wiring
with_all_sent role packets x = fold (with_sent role) x packets
