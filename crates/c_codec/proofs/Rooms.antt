-- How long frames and packets can be.
use Rattle.std.proofs.Common.{ℕ, ◌+◌, ◌*◌, ◌/◌, ◌^◌, ◌<◌, ◌≤◌, ◌==◌, ◌||◌, zero, suc, Bool, true, false, List, [], ◌∷◌, ◌++◌, length, ap, subst, inl, inr, arith, bit_xor}
use Rattle.std.specs.Bool.{if◌then◌else◌}
use Rattle.std.proofs.Math.Nat.{pow-suc}
use Rattle.std.proofs.lemmas.Bool.{cases_eq, cases_lt, ne_eqb}
use Rattle.std.proofs.lemmas.List.{length-append}
use Rattle.std.proofs.lemmas.Nat.{div_below}
use Rattle.byteorder.specs.Endian.{little_bytes}
use Rattle.byteorder.specs.Numbers.{length-bytes_low_first}
use Rattle.hdlc_frame.specs.declared.octets.TheConstants.{ESCAPE, ESCAPE_BIT, FLAG}
use Rattle.hdlc_frame.specs.Encoded.{encoded_ui, text_of, text_of_octet, ui_content}
use Rattle.hdlc_frame.proofs.ReadBack.{is_read_back}
use Rattle.proto_wire.specs.Absent.{nonempty_bytes, nonzero_fixed32, nonzero_varint}
use Rattle.proto_wire.specs.Entries.{fields_text, with_entry}
use Rattle.proto_wire.specs.Field.{WireField}
use Rattle.proto_wire.specs.Spelling.{field_text}
use Rattle.proto_wire.specs.Varint.{varint_text}
use Rattle.proto_wire.proofs.SpellingLaws.{varint_text-last, varint_text-more, varint_text_short}
use Rattle.rpc_packet.specs.Message.{Message}
use Rattle.rpc_packet.specs.Spelling.{IsWithinLimits, packet_entries, spelling_of}

-- an octet's text has one octet or two
octet_room : (x : ℕ) (b : Bool) → length (if b then ESCAPE ∷ bit_xor x ESCAPE_BIT ∷ [] else x ∷ []) ≤ 2
octet_room x true = omega arith
octet_room x false = omega arith

text_room : (xs : List ℕ) → length (text_of xs) ≤ 2 * length xs
unfolding text_of
text_room [] = omega arith
text_room (x ∷ xs) =
    let one = octet_room x ((x == FLAG) || (x == ESCAPE)) in
    omega (arith, one, text_room xs, length-append (text_of_octet x) (text_of xs))

pub frame_room : (address : ℕ) (payload : List ℕ) → address < 2 ^ 32 → length (encoded_ui address payload) ≤ 2 * length payload + 22
frame_room address payload h =
    let back = is_read_back address payload h in
    let most = back.most in
    let text = text_of (ui_content address payload) in
    omega (arith, most, text_room (ui_content address payload), length-append text (FLAG ∷ []))

-- a varint has a byte for each seven bits of its number
varint_room : (k n : ℕ) → n < 128 ^ suc k → n < 2 ^ 64 → length (varint_text n) ≤ suc k
varint_room zero n h fits = omega (arith, ap length (varint_text-last n (omega (arith, h))))
varint_room (suc k) n h fits = elim (cases_lt n 128) [
  | inl w ↦ omega (arith, ap length (varint_text-last n w))
  | inr w ↦
      let below : n / 128 < 128 ^ suc k = div_below n 128 (128 ^ suc k) (omega arith) (subst (λ m. n < m) (pow-suc 128 (suc k)) h) in
      omega (arith, varint_room k (n / 128) below (omega (arith, fits)), ap length (varint_text-more n w fits))
]

-- a field of RpcPacket has a tag of one byte
tag_room : (number wire : ℕ) → number ≤ 7 → wire ≤ 5 → length (varint_text (number * 8 + wire)) ≤ 1
tag_room number wire low few = varint_room 0 (number * 8 + wire) (omega (arith, low, few)) (omega (arith, low, few))

varint_entry :
    (number n k : ℕ) (rest : List WireField) → number ≤ 7 → n < 128 ^ suc k → n < 2 ^ 64 →
    length (fields_text (with_entry number (nonzero_varint n) rest)) ≤ 2 + k + length (fields_text rest)
unfolding field_text
varint_entry number n k rest low h fits = elim (cases_eq n 0) [
  | inl none ↦ rw none (omega arith)
  | inr some ↦
      let tag = tag_room number 0 low (omega arith) in
      let value = varint_room k n h fits in
      rw (ne_eqb n 0 some)
      (omega (
        arith,
        tag,
        value,
        length-append (varint_text (number * 8 + 0)) (varint_text n),
        length-append (varint_text (number * 8 + 0) ++ varint_text n) (fields_text rest),
      ))
]

fixed_entry :
    (number n : ℕ) (rest : List WireField) → number ≤ 7 →
    length (fields_text (with_entry number (nonzero_fixed32 n) rest)) ≤ 5 + length (fields_text rest)
unfolding field_text
fixed_entry number n rest low = elim (cases_eq n 0) [
  | inl none ↦ rw none (omega arith)
  | inr some ↦
      let tag = tag_room number 5 low (omega arith) in
      rw (ne_eqb n 0 some)
      (omega (
        arith,
        tag,
        length-bytes_low_first 0 4 n,
        length-append (varint_text (number * 8 + 5)) (little_bytes 4 n),
        length-append (varint_text (number * 8 + 5) ++ little_bytes 4 n) (fields_text rest),
      ))
]

bytes_entry :
    (number : ℕ) (content : List ℕ) (rest : List WireField) → number ≤ 7 →
    length (fields_text (with_entry number (nonempty_bytes content) rest)) ≤ 11 + length content + length (fields_text rest)
unfolding field_text
bytes_entry number content rest low = elim (cases_eq (length content) 0) [
  | inl none ↦ rw none (omega arith)
  | inr some ↦
      let tag = tag_room number 2 low (omega arith) in
      let size = varint_text (length content) in
      rw (ne_eqb (length content) 0 some)
      (omega (
        arith,
        tag,
        varint_text_short (length content),
        length-append size content,
        length-append (varint_text (number * 8 + 2)) (size ++ content),
        length-append (varint_text (number * 8 + 2) ++ (size ++ content)) (fields_text rest),
      ))
]

pub packet_room : (m : Message) → IsWithinLimits m → length (spelling_of m) ≤ length m.payload + 50
unfolding spelling_of packet_entries
packet_room m is =
    let f7 = with_entry 7 (nonzero_varint m.name.call) [] in
    let f6 = with_entry 6 (nonzero_varint m.status) f7 in
    let f5 = with_entry 5 (nonempty_bytes m.payload) f6 in
    let f4 = with_entry 4 (nonzero_fixed32 m.name.method) f5 in
    let f3 = with_entry 3 (nonzero_fixed32 m.name.service) f4 in
    let f2 = with_entry 2 (nonzero_varint m.name.channel) f3 in
    let ptype = is.ptype in
    let channel = is.channel in
    let status = is.status in
    let call = is.call in
    omega (
      arith,
      varint_entry 1 m.ptype 9 f2 (omega arith) (omega (arith, ptype)) ptype,
      varint_entry 2 m.name.channel 4 f3 (omega arith) (omega (arith, channel)) (omega (arith, channel)),
      fixed_entry 3 m.name.service f4 (omega arith),
      fixed_entry 4 m.name.method f5 (omega arith),
      bytes_entry 5 m.payload f6 (omega arith),
      varint_entry 6 m.status 4 f7 (omega arith) (omega (arith, status)) (omega (arith, status)),
      varint_entry 7 m.name.call 4 [] (omega arith) (omega (arith, call)) (omega (arith, call)),
    )
