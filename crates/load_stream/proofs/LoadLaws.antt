-- Laws of the packets of the stream.
use Rattle.std.proofs.Common.{◌≡◌, ℕ, zero, suc, ◌+◌, ◌*◌, ◌%◌, ◌^◌, ◌<◌, ◌≤◌, ◌==◌, Bool, true, false, if◌then◌else◌, List, [], ◌∷◌, length, refl, ap, lit<, lit≤, arith, length-append}
use Rattle.std.specs.Prelude.{All}
use Rattle.std.proofs.lemmas.List.Elements.{All-nil, All-cons, All-append, All-map}
use Rattle.demo_services.specs.declared.ids.TheConstants.{ECHO, COUNT, SUM, CHAT}
use Rattle.rpc_ids.specs.declared.method.Role.TheVariants.{Server}
use Rattle.rpc_packet.specs.declared.call_name.CallName.{CallName}
use Rattle.rpc_packet.specs.declared.owned.Packet.{Packet}
use Rattle.rpc_packet.specs.declared.packet_type.PacketType.{PacketType}
use Rattle.rpc_packet.specs.declared.packet_type.PacketType.TheVariants.{Request, ClientStream, Completion}
use Rattle.rpc_packet.specs.Message.{message_of}
use Rattle.rpc_packet.specs.PacketType.{receiver_of}
use Rattle.rpc_packet.proofs.SpellingLaws.{type_within}
use Rattle.rpc_frames.specs.Laws.{AreHeardBack}
use Rattle.rpc_frames.specs.Written.{IsSendable, frames_of_packets}
use Rattle.rpc_frames.proofs.HeardBack.{are_heard_back}
use Rattle.load_stream.specs.declared.calls.TheConstants.{LONGEST_CALL}
use Rattle.link_script.specs.Generator.{number_after}
use Rattle.load_stream.specs.Laws.{IsHeard}
use Rattle.load_stream.specs.Load.{call_name, call_packets, count_in, highest_bytes, load_packets, load_stream, messages, packet, streamed}
use Rattle.load_stream.proofs.FrameSteps.{frames_joined}
use Rattle.load_stream.proofs.LengthLemmas.{content_most, frames_most}

-- what holds of each packet that a client of the service sends with three bytes at most
abbrev OfSmall : (Packet → Type 0) → ℕ → Type 0
OfSmall P number =
    (t : PacketType) (method : ℕ) (payload : List ℕ) → receiver_of t ≡ Server → 0 < method → method < 2 ^ 32 → length payload ≤ 3 →
    P (packet t (call_name number method) payload)

either_all : (P : Packet → Type 0) (b : Bool) (ps qs : List Packet) → All P ps → All P qs → All P (if b then ps else qs)
either_all P true ps qs first second = first
either_all P false ps qs first second = second

one_all : (P : Packet → Type 0) (p : Packet) → P p → All P (p ∷ [])
one_all P p holds = All-cons P p [] holds (All-nil P)

streamed_all :
    (P : Packet → Type 0) (number method : ℕ) (bytes : List ℕ) → OfSmall P number → 0 < method → method < 2 ^ 32 →
    All P (streamed (call_name number method) bytes)
unfolding streamed
streamed_all P number method bytes each low high =
    let name = call_name number method in
    let said : All P (messages name bytes) =
    All-map P (λ byte. packet ClientStream name (byte ∷ [])) bytes (λ k d below. each ClientStream method _ refl low high (lit≤ tt)) in
    All-append P (packet Request name [] ∷ messages name bytes) (packet Completion name [] ∷ [])
    (All-cons P (packet Request name []) (messages name bytes) (each Request method [] refl low high (lit≤ tt)) said)
    (one_all P (packet Completion name []) (each Completion method [] refl low high (lit≤ tt)))

-- it holds of the packets of a call
call_all : (P : Packet → Type 0) (number x : ℕ) → OfSmall P number → All P (call_packets number x)
unfolding call_packets
call_all P number x each =
    let echo = packet Request (call_name number ECHO) (highest_bytes x) in
    let count = packet Request (call_name number COUNT) (count_in x ∷ []) in
    let sum = streamed (call_name number SUM) (highest_bytes x) in
    let chat = streamed (call_name number CHAT) (highest_bytes x) in
    let echoed = one_all P echo (each Request ECHO (highest_bytes x) refl (lit< tt) (lit< tt) (lit≤ tt)) in
    let counted = one_all P count (each Request COUNT (count_in x ∷ []) refl (lit< tt) (lit< tt) (lit≤ tt)) in
    let summed = streamed_all P number SUM (highest_bytes x) each (lit< tt) (lit< tt) in
    let chatted = streamed_all P number CHAT (highest_bytes x) each (lit< tt) (lit< tt) in
    either_all P (number % 4 == 0) (echo ∷ []) _ echoed
    (either_all P (number % 4 == 1) (count ∷ []) _ counted (either_all P (number % 4 == 2) sum chat summed chatted))

either_short : (b : Bool) (ps qs : List Packet) → length ps ≤ 5 → length qs ≤ 5 → length (if b then ps else qs) ≤ 5
either_short true ps qs first second = first
either_short false ps qs first second = second

streamed_short : (name : CallName) (x : ℕ) → length (streamed name (highest_bytes x)) ≤ 5
unfolding streamed
streamed_short name x = lit≤ tt

-- a call has five packets at most
call_short : (number x : ℕ) → length (call_packets number x) ≤ 5
unfolding call_packets
call_short number x =
    either_short (number % 4 == 0) (packet Request (call_name number ECHO) (highest_bytes x) ∷ []) _ (lit≤ tt)
    (either_short (number % 4 == 1) (packet Request (call_name number COUNT) (count_in x ∷ []) ∷ []) _ (lit≤ tt)
    (either_short (number % 4 == 2) (streamed (call_name number SUM) (highest_bytes x)) (streamed (call_name number CHAT) (highest_bytes x))
    (streamed_short (call_name number SUM) x) (streamed_short (call_name number CHAT) x)))

call_most : (number x : ℕ) → length (frames_of_packets (call_packets number x)) ≤ LONGEST_CALL
call_most number x =
    let frames = frames_most (call_packets number x) (call_all (λ p. length p.payload ≤ 3) number x (λ t method payload up low high small. small)) in
    let few = call_short number x in
    omega (arith, frames, few)

-- the stream is no longer than so many calls
pub load_most : (calls seed : ℕ) → length (load_stream calls seed) ≤ LONGEST_CALL * calls
unfolding load_packets
load_most zero seed = omega arith
load_most (suc calls) seed =
    let before = load_most calls seed in
    let last = call_most calls (number_after (suc calls) seed) in
    let joined = ap length (frames_joined (load_packets calls seed) (call_packets calls (number_after (suc calls) seed))) in
    omega (arith, before, last, joined, length-append (load_stream calls seed) (frames_of_packets (call_packets calls (number_after (suc calls) seed))))

small_is_sendable : (number : ℕ) → number + 1 < 2 ^ 32 → OfSmall (IsSendable Server) number
small_is_sendable number fits t method payload up low high small =
    let content = content_most (message_of (packet t (call_name number method) payload)) in
    record {
      hears = record { number = refl; receiver = up; channel = lit< tt; service = lit< tt; method = low };
      within = record { ptype = type_within t; channel = lit< tt; service = lit< tt; method = high; call = fits; payload = omega (arith, small); status = lit< tt };
      fits = omega (arith, content, small);
    }

all_sendable : (calls seed : ℕ) → calls < 2 ^ 32 → All (IsSendable Server) (load_packets calls seed)
unfolding load_packets
all_sendable zero seed few = All-nil (IsSendable Server)
all_sendable (suc calls) seed few =
    All-append (IsSendable Server) (load_packets calls seed) (call_packets calls (number_after (suc calls) seed))
    (all_sendable calls seed (omega (arith, few)))
    (call_all (IsSendable Server) calls (number_after (suc calls) seed) (small_is_sendable calls (omega (arith, few))))

-- the server hears the packets of the stream
pub load_heard : (calls seed : ℕ) → calls < 2 ^ 32 → IsHeard calls seed
load_heard calls seed few =
    let back : AreHeardBack Server (load_packets calls seed) = are_heard_back Server (load_packets calls seed) (all_sendable calls seed few) in
    back.alone
