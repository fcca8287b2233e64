-- How long what is written for a packet is.
use Rattle.std.proofs.Common.{ℕ, ◌+◌, ◌*◌, ◌^◌, ◌<◌, ◌≤◌, List, [], length, Option, Some, None, IfSome, inl, inr, arith, length-append}
use Rattle.std.proofs.lemmas.Bool.{cases_eq, ne_eqb}
use Rattle.hdlc_frame.specs.Encoded.{ui_content}
use Rattle.hdlc_frame.proofs.ReadBack.{is_read_back}
use Rattle.proto_wire.specs.Absent.{nonempty_bytes, nonzero_fixed32, nonzero_varint}
use Rattle.proto_wire.specs.Entries.{fields_text, with_entry}
use Rattle.proto_wire.specs.Field.{WireValue, Varint, Fixed64, Bytes, Fixed32, WireField, wire_type}
use Rattle.proto_wire.specs.Spelling.{field_text, value_text}
use Rattle.proto_wire.specs.Varint.{varint_text}
use Rattle.proto_wire.proofs.SpellingLaws.{value_spelled, varint_text_spelled}
use Rattle.rpc_packet.specs.Message.{Message}
use Rattle.rpc_packet.specs.Spelling.{IsWithinLimits, packet_entries, spelling_of}
use Rattle.rpc_frames.specs.declared.limits.TheConstants.{ADDRESS, MOST_BESIDES_PAYLOAD}

varint_short : (n : ℕ) → n < 2 ^ 64 → length (varint_text n) ≤ 10
varint_short n below = (varint_text_spelled n below).short

wire_small : (v : WireValue) → wire_type v ≤ 5
wire_small (Varint n) = omega arith
wire_small (Fixed64 n) = omega arith
wire_small (Bytes content) = omega arith
wire_small (Fixed32 n) = omega arith

-- a field of a packet whose value takes at most so many bytes
field_short : (number : ℕ) (v : WireValue) (most : ℕ) → number ≤ 7 → length (value_text v) ≤ most → length (field_text (record { number = number; value = v })) ≤ 10 + most
unfolding field_text
field_short number v most small short =
    let wire = wire_small v in
    let tag = varint_short (number * 8 + wire_type v) (omega arith) in
    omega (arith, length-append (varint_text (number * 8 + wire_type v)) (value_text v))

entry_short :
    (number : ℕ) (v : Option WireValue) (most : ℕ) (fields : List WireField) → number ≤ 7 → IfSome v (λ w. length (value_text w) ≤ most) →
    length (fields_text (with_entry number v fields)) ≤ 10 + most + length (fields_text fields)
entry_short number None most fields small short = omega arith
entry_short number (Some v) most fields small short =
    let first = field_short number v most small short in
    omega (arith, length-append (field_text (record { number = number; value = v })) (fields_text fields))

number_short : (n : ℕ) → n < 2 ^ 64 → IfSome (nonzero_varint n) (λ w. length (value_text w) ≤ 10)
number_short n below = elim (cases_eq n 0) [ inl none ↦ rw none tt | inr some ↦ rw (ne_eqb n 0 some) (varint_short n below) ]

word_short : (n : ℕ) → n < 2 ^ 32 → IfSome (nonzero_fixed32 n) (λ w. length (value_text w) ≤ 4)
word_short n below = elim (cases_eq n 0) [
  | inl none ↦ rw none tt
  | inr some ↦ rw (ne_eqb n 0 some) (let four = (value_spelled (Fixed32 n) below).0 in omega (arith, four))
]

bytes_short : (content : List ℕ) → length content < 2 ^ 64 → IfSome (nonempty_bytes content) (λ w. length (value_text w) ≤ 10 + length content)
bytes_short content below = elim (cases_eq (length content) 0) [
  | inl none ↦ rw none tt
  | inr some ↦ rw (ne_eqb (length content) 0 some) (
      let tag = varint_short (length content) below in
      omega (arith, length-append (varint_text (length content)) content)
      )
]

-- a packet's spelling is not much longer than its payload
pub spelling_short : (m : Message) → IsWithinLimits m → length (spelling_of m) ≤ length m.payload + 128
unfolding spelling_of packet_entries
spelling_short m is =
    let from_call = with_entry 7 (nonzero_varint m.name.call) [] in
    let from_status = with_entry 6 (nonzero_varint m.status) from_call in
    let from_payload = with_entry 5 (nonempty_bytes m.payload) from_status in
    let from_method = with_entry 4 (nonzero_fixed32 m.name.method) from_payload in
    let from_service = with_entry 3 (nonzero_fixed32 m.name.service) from_method in
    let from_channel = with_entry 2 (nonzero_varint m.name.channel) from_service in
    let call = entry_short 7 (nonzero_varint m.name.call) 10 [] (omega arith) (number_short m.name.call (omega (arith, is.call))) in
    let status = entry_short 6 (nonzero_varint m.status) 10 from_call (omega arith) (number_short m.status (omega (arith, is.status))) in
    let payload = entry_short 5 (nonempty_bytes m.payload) (10 + length m.payload) from_status (omega arith) (bytes_short m.payload is.payload) in
    let method = entry_short 4 (nonzero_fixed32 m.name.method) 4 from_payload (omega arith) (word_short m.name.method is.method) in
    let service = entry_short 3 (nonzero_fixed32 m.name.service) 4 from_method (omega arith) (word_short m.name.service is.service) in
    let channel = entry_short 2 (nonzero_varint m.name.channel) 10 from_service (omega arith) (number_short m.name.channel (omega (arith, is.channel))) in
    let ptype = entry_short 1 (nonzero_varint m.ptype) 10 from_channel (omega arith) (number_short m.ptype is.ptype) in
    omega (arith, call, status, payload, method, service, channel, ptype)

-- nor is the content of its frame
pub content_short : (m : Message) → IsWithinLimits m → length (ui_content ADDRESS (spelling_of m)) ≤ length m.payload + MOST_BESIDES_PAYLOAD
content_short m is =
    let short = spelling_short m is in
    let most = (is_read_back ADDRESS (spelling_of m) (omega arith)).most in
    omega arith
