-- How long spellings and frames are at most.
use Rattle.std.proofs.Common.{ℕ, zero, suc, ◌+◌, ◌*◌, ◌/◌, ◌%◌, ◌≤◌, ◌==◌, nat_lt, Bool, true, false, if◌then◌else◌, List, [], ◌∷◌, ◌++◌, length, Option, Some, None, ◌||◌, bit_xor, lit≤, arith, length-append}
use Rattle.std.specs.Prelude.{All, IfSome}
use Rattle.std.specs.Int.{bytes_low_first}
use Rattle.proto_wire.specs.Absent.{nonzero_varint, nonzero_fixed32, nonempty_bytes}
use Rattle.proto_wire.specs.Entries.{fields_text, with_entry}
use Rattle.proto_wire.specs.Field.{WireField, WireValue, Varint, Bytes, Fixed32, tag_of}
use Rattle.proto_wire.specs.Spelling.{field_text, value_text}
use Rattle.proto_wire.specs.Varint.{groups_of, varint_text}
use Rattle.std.proofs.lemmas.List.Elements.{All-head, All-tail}
use Rattle.hdlc_frame.specs.declared.octets.TheConstants.{ESCAPE, ESCAPE_BIT, FLAG}
use Rattle.hdlc_frame.specs.Encoded.{text_of, text_of_octet, ui_content}
use Rattle.hdlc_frame.specs.Laws.{IsReadBack}
use Rattle.hdlc_frame.proofs.ReadBack.{is_read_back}
use Rattle.rpc_frames.specs.declared.limits.TheConstants.{ADDRESS}
use Rattle.rpc_frames.specs.Written.{frame_of_packet, frames_of_packets}
use Rattle.rpc_packet.specs.declared.owned.Packet.{Packet}
use Rattle.rpc_packet.specs.Message.{Message, message_of}
use Rattle.rpc_packet.specs.Spelling.{packet_entries, spelling_of}

either_most : (b : Bool) (xs ys : List ℕ) (most : ℕ) → length xs ≤ most → length ys ≤ most → length (if b then xs else ys) ≤ most
either_most true xs ys most first second = first
either_most false xs ys most first second = second

groups_most : (k n : ℕ) → length (groups_of k n) ≤ k
unfolding groups_of
groups_most zero n = omega arith
groups_most (suc k) n =
    let rest = groups_most k (n / 128) in
    either_most (nat_lt n 128) (n ∷ []) ((128 + n % 128) ∷ groups_of k (n / 128)) (suc k) (omega arith) (omega (arith, rest))

varint_most : (n : ℕ) → length (varint_text n) ≤ 10
unfolding varint_text
varint_most n = groups_most 10 n

fixed_most : (n : ℕ) → length (bytes_low_first 0 4 n) ≤ 10
fixed_most n = lit≤ tt

-- a value that is left out or not
if_there :
    (absent : Bool) (v : WireValue) (most : ℕ) → length (value_text v) ≤ most →
    IfSome (if absent then None else Some v) (λ w. length (value_text w) ≤ most)
if_there true v most fits = tt
if_there false v most fits = fits

-- an entry takes no more than its tag and its value
entry_most :
    (number : ℕ) (value : Option WireValue) (most : ℕ) (fs : List WireField) → IfSome value (λ v. length (value_text v) ≤ most) →
    length (fields_text (with_entry number value fs)) ≤ 10 + most + length (fields_text fs)
unfolding field_text
entry_most number None most fs fits = omega arith
entry_most number (Some v) most fs fits =
    let field : WireField = record { number = number; value = v } in
    let tag = varint_most (tag_of field) in
    omega (arith, tag, fits, length-append (varint_text (tag_of field) ++ value_text v) (fields_text fs), length-append (varint_text (tag_of field)) (value_text v))

varint_entry :
    (number n : ℕ) (fs : List WireField) →
    length (fields_text (with_entry number (nonzero_varint n) fs)) ≤ 20 + length (fields_text fs)
varint_entry number n fs = entry_most number (nonzero_varint n) 10 fs (if_there (n == 0) (Varint n) 10 (varint_most n))

fixed_entry :
    (number n : ℕ) (fs : List WireField) →
    length (fields_text (with_entry number (nonzero_fixed32 n) fs)) ≤ 20 + length (fields_text fs)
fixed_entry number n fs = entry_most number (nonzero_fixed32 n) 10 fs (if_there (n == 0) (Fixed32 n) 10 (fixed_most n))

bytes_entry :
    (number : ℕ) (content : List ℕ) (fs : List WireField) →
    length (fields_text (with_entry number (nonempty_bytes content) fs)) ≤ 20 + length content + length (fields_text fs)
bytes_entry number content fs =
    let size = varint_most (length content) in
    let long = length-append (varint_text (length content)) content in
    let fits = if_there (length content == 0) (Bytes content) (10 + length content) (omega (arith, size, long)) in
    let most = entry_most number (nonempty_bytes content) (10 + length content) fs fits in
    omega (arith, most)

-- a packet's spelling is little longer than its payload
pub spelling_most : (m : Message) → length (spelling_of m) ≤ 140 + length m.payload
unfolding packet_entries spelling_of
spelling_most m =
    let seven = with_entry 7 (nonzero_varint m.name.call) [] in
    let six = with_entry 6 (nonzero_varint m.status) seven in
    let five = with_entry 5 (nonempty_bytes m.payload) six in
    let four = with_entry 4 (nonzero_fixed32 m.name.method) five in
    let three = with_entry 3 (nonzero_fixed32 m.name.service) four in
    let two = with_entry 2 (nonzero_varint m.name.channel) three in
    let call = varint_entry 7 m.name.call [] in
    let status = varint_entry 6 m.status seven in
    let payload = bytes_entry 5 m.payload six in
    let method = fixed_entry 4 m.name.method five in
    let service = fixed_entry 3 m.name.service four in
    let channel = varint_entry 2 m.name.channel three in
    let ptype = varint_entry 1 m.ptype two in
    omega (arith, call, status, payload, method, service, channel, ptype)

octet_most : (octet : ℕ) → length (text_of_octet octet) ≤ 2
octet_most octet = either_most ((octet == FLAG) || (octet == ESCAPE)) (ESCAPE ∷ bit_xor octet ESCAPE_BIT ∷ []) (octet ∷ []) 2 (lit≤ tt) (lit≤ tt)

text_most : (content : List ℕ) → length (text_of content) ≤ 2 * length content
unfolding text_of
text_most [] = omega arith
text_most (octet ∷ content) =
    let one = octet_most octet in
    let rest = text_most content in
    omega (arith, one, rest, length-append (text_of_octet octet) (text_of content))

-- the content of a packet's frame
pub content_most : (m : Message) → length (ui_content ADDRESS (spelling_of m)) ≤ 150 + length m.payload
content_most m =
    let back : IsReadBack ADDRESS (spelling_of m) = is_read_back ADDRESS (spelling_of m) (omega arith) in
    let spelled = spelling_most m in
    omega (arith, back.most, spelled)

-- a packet's frame
pub frame_most : (m : Message) → length (frame_of_packet m) ≤ 302 + 2 * length m.payload
frame_most m =
    let content = ui_content ADDRESS (spelling_of m) in
    let text = text_most content in
    let most = content_most m in
    omega (arith, text, most, length-append (FLAG ∷ [] ++ text_of content) (FLAG ∷ []), length-append (FLAG ∷ []) (text_of content))

-- frames of packets whose payloads have three bytes at most
pub frames_most : (ps : List Packet) → All (λ p. length p.payload ≤ 3) ps → length (frames_of_packets ps) ≤ 308 * length ps
frames_most [] small = omega arith
frames_most (p ∷ ps) small =
    let one = frame_most (message_of p) in
    let payload = All-head (λ (q : Packet). length q.payload ≤ 3) p ps small in
    let rest = frames_most ps (All-tail (λ (q : Packet). length q.payload ≤ 3) p ps small) in
    omega (arith, one, payload, rest, length-append (frame_of_packet (message_of p)) (frames_of_packets ps))
