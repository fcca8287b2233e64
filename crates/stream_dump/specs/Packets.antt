-- A packet in words.
use Rattle.std.specs.Prelude.{ℕ, ◌==◌, ◌&&◌, ◌||◌, if◌then◌else◌, Bool, true, false, List, [], ◌∷◌, ◌++◌, length, codes, Option, Some, None, Result, Ok, Err}
use Rattle.std.specs.Fmt.{decimal}
use Rattle.hex.specs.Hex.{encode_lower}
use Rattle.rpc_ids.specs.Status.{status_name, status_of}
use Rattle.rpc_packet.specs.declared.call_name.CallName.{CallName}
use Rattle.rpc_packet.specs.declared.packet_type.PacketType.{PacketType}
use Rattle.rpc_packet.specs.declared.packet_type.PacketType.TheVariants.{Request, Response, ClientStream, ClientError, ServerError, ServerStream, Completion}
use Rattle.rpc_packet.specs.Message.{Message}
use Rattle.rpc_packet.specs.PacketType.{type_of}
use Rattle.rpc_packet.specs.Reading.{packet_of}
use Rattle.stream_dump.specs.declared.ids.TheConstants.{TRANSFER, READ, WRITE}
use Rattle.stream_dump.specs.Chunks.{chunk_words}
use Rattle.stream_dump.specs.Names.{Name, service_text, method_text}

abbrev pub type_name : PacketType → List ℕ
type_name Request = codes "request"
type_name Response = codes "response"
type_name ClientStream = codes "client_stream"
type_name ClientError = codes "client_error"
type_name ServerError = codes "server_error"
type_name ServerStream = codes "server_stream"
type_name Completion = codes "client_request_completion"

abbrev pub named_type : ℕ → Option PacketType → List (List ℕ)
named_type number (Some ptype) = type_name ptype ∷ []
named_type number None = codes "type" ∷ decimal number ∷ []

-- the type by its name, and a number that no type has by itself
abbrev pub type_words : ℕ → List (List ℕ)
type_words number = named_type number (type_of number)

-- channel, service, method and call
abbrev pub call_words : List Name → CallName → List (List ℕ)
call_words names called =
    decimal called.channel ∷ service_text names called.service ∷ method_text names called.service called.method ∷ decimal called.call ∷ []

-- a packet that ends a call, or refuses one, carries a status
abbrev pub has_status : Option PacketType → Bool
has_status (Some Response) = true
has_status (Some ClientError) = true
has_status (Some ServerError) = true
has_status _ = false

abbrev pub status_words : Message → List (List ℕ)
status_words m = if has_status (type_of m.ptype) then codes "status" ∷ status_name (status_of m.status) ∷ [] else []

-- a packet of a stream has a message
abbrev pub is_stream : Option PacketType → Bool
is_stream (Some ClientStream) = true
is_stream (Some ServerStream) = true
is_stream _ = false

-- a method of the transfer service
abbrev pub is_transfer : CallName → Bool
is_transfer called = (called.service == TRANSFER) && ((called.method == READ) || (called.method == WRITE))

abbrev pub digits_words : List ℕ → List (List ℕ)
digits_words [] = []
digits_words (octet ∷ octets) = encode_lower (octet ∷ octets) ∷ []

-- how long a payload is, and its bytes in hexadecimal digits, where there are some
abbrev pub payload_words : List ℕ → List (List ℕ)
payload_words payload = codes "payload" ∷ decimal (length payload) ∷ digits_words payload

-- the payload of a packet: a chunk where it is a message of a transfer
abbrev pub content_words : Message → List (List ℕ)
content_words m =
    if is_stream (type_of m.ptype) && is_transfer m.name then chunk_words m.payload else payload_words m.payload

abbrev pub message_words : List Name → Message → List (List ℕ)
message_words names m = type_words m.ptype ++ call_words names m.name ++ status_words m ++ content_words m

abbrev pub packet_said : List Name → Result Message ℕ → List (List ℕ)
packet_said names (Err at) = codes "packet" ∷ codes "malformed" ∷ codes "at" ∷ decimal at ∷ []
packet_said names (Ok m) = message_words names m

-- what the payload of a frame says as a packet, or where it is malformed
abbrev pub packet_words : List Name → List ℕ → List (List ℕ)
packet_words names payload = packet_said names (packet_of payload)
