-- A link on which nothing is kept back.
use Rattle.std.specs.Prelude.{List, [], map}
use Rattle.rpc_packet.specs.declared.owned.Packet.{Packet}
use Rattle.rpc_packet.specs.Message.{message_of}
use Rattle.rpc_frames.specs.Written.{frame_of_packet}
use Rattle.link_script.specs.lossy.Link.{Link}

-- the frames of these packets are on it, the oldest first
abbrev pub carrying : List Packet → Link
carrying ps = record { frames = map (λ p. frame_of_packet (message_of p)) ps; kept_back = [] }
