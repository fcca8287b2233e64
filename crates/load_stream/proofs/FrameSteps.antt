-- Frames one by one, and all together.
use Rattle.std.proofs.Common.{◌≡◌, ℕ, suc, ◌+◌, ◌%◌, List, [], ◌∷◌, ◌++◌, refl, add-one}
use Rattle.std.proofs.lemmas.List.{append-nil}
use Rattle.std.proofs.lemmas.Grind.{flat_map-append}
use Rattle.demo_services.specs.declared.ids.TheConstants.{ECHO, COUNT, SUM, CHAT}
use Rattle.rpc_packet.specs.declared.owned.Packet.{Packet}
use Rattle.rpc_packet.specs.declared.packet_type.PacketType.TheVariants.{Request}
use Rattle.rpc_packet.specs.Message.{message_of}
use Rattle.rpc_frames.specs.Written.{frame_of_packet, frames_of_packets}
use Rattle.link_script.specs.Generator.{number_after, number_behind}
use Rattle.load_stream.specs.Load.{call_name, call_packets, count_in, load_packets, load_stream, packet, streamed, highest_bytes}

abbrev pub frame : Packet → List ℕ
frame p = frame_of_packet (message_of p)

pub frames_joined : (ps qs : List Packet) → frames_of_packets (ps ++ qs) ≡ frames_of_packets ps ++ frames_of_packets qs
frames_joined ps qs = flat_map-append frame ps qs

pub one_frame : (p : Packet) → frames_of_packets (p ∷ []) ≡ frame p
one_frame p = append-nil (frame p)

-- one call more
pub load_more :
    (number seed : ℕ) →
    load_stream (number + 1) seed ≡ load_stream number seed ++ frames_of_packets (call_packets number (number_after (number + 1) seed))
unfolding load_packets
load_more number seed =
    rw add-one (frames_joined (load_packets number seed) (call_packets number (number_after (suc number) seed)))

-- one step of the generator more
pub number_more : (steps seed : ℕ) → number_after (steps + 1) seed ≡ number_behind (number_after steps seed)
unfolding number_after
number_more steps seed = rw add-one refl

-- the frames of a call, by its number
pub echo_frames :
    (number x : ℕ) → number % 4 ≡ 0 →
    frames_of_packets (call_packets number x) ≡ frame (packet Request (call_name number ECHO) (highest_bytes x))
unfolding call_packets
echo_frames number x turn = rw turn (one_frame (packet Request (call_name number ECHO) (highest_bytes x)))

pub count_frames :
    (number x : ℕ) → number % 4 ≡ 1 →
    frames_of_packets (call_packets number x) ≡ frame (packet Request (call_name number COUNT) (count_in x ∷ []))
unfolding call_packets
count_frames number x turn = rw turn (one_frame (packet Request (call_name number COUNT) (count_in x ∷ [])))

pub sum_frames :
    (number x : ℕ) → number % 4 ≡ 2 →
    frames_of_packets (call_packets number x) ≡ frames_of_packets (streamed (call_name number SUM) (highest_bytes x))
unfolding call_packets
sum_frames number x turn = rw turn refl

pub chat_frames :
    (number x : ℕ) → number % 4 ≡ 3 →
    frames_of_packets (call_packets number x) ≡ frames_of_packets (streamed (call_name number CHAT) (highest_bytes x))
unfolding call_packets
chat_frames number x turn = rw turn refl
