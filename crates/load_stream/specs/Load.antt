-- The stream of N calls from a seed.
use Rattle.std.specs.Prelude.{ℕ, zero, suc, ◌+◌, ◌/◌, ◌%◌, ◌^◌, ◌==◌, List, [], ◌∷◌, ◌++◌, map, take, if◌then◌else◌}
use Rattle.std.specs.Int.{to_be_bytes, w64}
use Rattle.demo_services.specs.declared.ids.TheConstants.{DEMO, ECHO, COUNT, SUM, CHAT}
use Rattle.rpc_frames.specs.Written.{frames_of_packets}
use Rattle.rpc_packet.specs.declared.call_name.CallName.{CallName}
use Rattle.rpc_packet.specs.declared.owned.Packet.{Packet}
use Rattle.rpc_packet.specs.declared.packet_type.PacketType.{PacketType}
use Rattle.rpc_packet.specs.declared.packet_type.PacketType.TheVariants.{Request, ClientStream, Completion}
use Rattle.load_stream.specs.declared.calls.TheConstants.{CHANNEL, SENT_BYTES}
use Rattle.link_script.specs.Generator.{number_after}

-- the name of the call with this number, of a method of demo.Demo; the calls have the ids from 1
abbrev pub call_name : ℕ → ℕ → CallName
call_name number method = record { channel = CHANNEL; service = DEMO; method = method; call = number + 1 }

abbrev pub packet : PacketType → CallName → List ℕ → Packet
packet ptype name payload = record { ptype = ptype; name = name; payload = payload; status = 0 }

-- the three top bytes of a number, the highest first
abbrev pub highest_bytes : ℕ → List ℕ
highest_bytes x = take SENT_BYTES (to_be_bytes w64 x)

-- how far a call of Count counts: 1 to 64
abbrev pub count_in : ℕ → ℕ
count_in x = 1 + x / 2 ^ 32 % 64

-- each byte as a message
abbrev pub messages : CallName → List ℕ → List Packet
messages name bytes = map (λ byte. packet ClientStream name (byte ∷ [])) bytes

-- a call that sends each byte as a message, and then the completion
unfoldable pub streamed : CallName → List ℕ → List Packet
streamed name bytes = packet Request name [] ∷ messages name bytes ++ packet Completion name [] ∷ []

-- the packets of the call with this number, for which the generator gave x: Echo, Count, Sum and Chat by turns
unfoldable pub call_packets : ℕ → ℕ → List Packet
call_packets number x =
    if number % 4 == 0 then packet Request (call_name number ECHO) (highest_bytes x) ∷ []
    else if number % 4 == 1 then packet Request (call_name number COUNT) (count_in x ∷ []) ∷ []
    else if number % 4 == 2 then streamed (call_name number SUM) (highest_bytes x)
    else streamed (call_name number CHAT) (highest_bytes x)

-- the packets of the first calls: each has one step of the generator, the first one that from the seed
unfoldable pub load_packets : ℕ → ℕ → List Packet
load_packets zero seed = []
load_packets (suc number) seed = load_packets number seed ++ call_packets number (number_after (suc number) seed)

-- their frames, one after another
abbrev pub load_stream : ℕ → ℕ → List ℕ
load_stream calls seed = frames_of_packets (load_packets calls seed)
