-- What is written is read as itself.
use Rattle.std.proofs.Common.{◌≡◌, ℕ, ◌^◌, ◌<◌, true, List, [], length, Option, IfSome, Ok, refl, sym, arith, inl, inr}
use Rattle.std.proofs.lemmas.Bool.{cases_eq, lt-ltb, ne_eqb}
use Rattle.std.proofs.lemmas.List.{nil_from_length}
use Rattle.proto_wire.specs.Absent.{nonzero_varint, nonzero_fixed32, nonempty_bytes}
use Rattle.proto_wire.specs.Entries.{present, AllFitting}
use Rattle.proto_wire.specs.Field.{WireValue}
use Rattle.proto_wire.specs.Spelling.{FitsWire}
use Rattle.proto_wire.specs.Typed.{FieldType, Uint64, Uint32, FourBytes, SomeBytes, may_have, number_in, content_in}
use Rattle.proto_wire.proofs.EntryLaws.{written_fields, written_fault, last_after-present, value_or}
use Rattle.rpc_packet.specs.declared.packet_type.PacketType.{PacketType}
use Rattle.rpc_packet.specs.declared.packet_type.PacketType.TheVariants.{Request, Response, ClientStream, ClientError, ServerError, ServerStream, Completion}
use Rattle.rpc_packet.specs.Message.{Message}
use Rattle.rpc_packet.specs.PacketType.{type_number}
use Rattle.rpc_packet.specs.Table.{packet_fields, message_in}
use Rattle.rpc_packet.specs.Reading.{packet_of}
use Rattle.rpc_packet.specs.Spelling.{packet_entries, spelling_of, IsWithinLimits}

-- a value that may be left out can be written, and a field of this type may have it
record Suits (type : FieldType) (value : Option WireValue) : Type 0 where
  fits : IfSome value FitsWire
  suits : IfSome value (λ v. may_have type v ≡ true)

uint64_suits : (n : ℕ) → n < 2 ^ 64 → Suits Uint64 (nonzero_varint n)
uint64_suits n below = elim (cases_eq n 0) [
  | inl none ↦ rw none (record { fits = tt; suits = tt })
  | inr some ↦ rw (ne_eqb n 0 some) (record { fits = below; suits = refl })
]

uint32_suits : (n : ℕ) → n < 2 ^ 32 → Suits Uint32 (nonzero_varint n)
uint32_suits n below = elim (cases_eq n 0) [
  | inl none ↦ rw none (record { fits = tt; suits = tt })
  | inr some ↦ rw (ne_eqb n 0 some) (record { fits = omega arith; suits = rw (lt-ltb n (2 ^ 32) below) refl })
]

fixed32_suits : (n : ℕ) → n < 2 ^ 32 → Suits FourBytes (nonzero_fixed32 n)
fixed32_suits n below = elim (cases_eq n 0) [
  | inl none ↦ rw none (record { fits = tt; suits = tt })
  | inr some ↦ rw (ne_eqb n 0 some) (record { fits = below; suits = refl })
]

bytes_suit : (content : List ℕ) → length content < 2 ^ 64 → Suits SomeBytes (nonempty_bytes content)
bytes_suit content below = elim (cases_eq (length content) 0) [
  | inl none ↦ rw none (record { fits = tt; suits = tt })
  | inr some ↦ rw (ne_eqb (length content) 0 some) (record { fits = below; suits = refl })
]

entries_fit : (m : Message) → IsWithinLimits m → AllFitting packet_fields (packet_entries m)
unfolding packet_entries
entries_fit m is =
    let s1 = uint64_suits m.ptype is.ptype in
    let s2 = uint32_suits m.name.channel is.channel in
    let s3 = fixed32_suits m.name.service is.service in
    let s4 = fixed32_suits m.name.method is.method in
    let s5 = bytes_suit m.payload is.payload in
    let s6 = uint32_suits m.status is.status in
    let s7 = uint32_suits m.name.call is.call in (
      record { low = omega arith; high = omega arith; fits = s1.fits; suits = s1.suits },
      (
        record { low = omega arith; high = omega arith; fits = s2.fits; suits = s2.suits },
        (
          record { low = omega arith; high = omega arith; fits = s3.fits; suits = s3.suits },
          (
            record { low = omega arith; high = omega arith; fits = s4.fits; suits = s4.suits },
            (
              record { low = omega arith; high = omega arith; fits = s5.fits; suits = s5.suits },
              (
                record { low = omega arith; high = omega arith; fits = s6.fits; suits = s6.suits },
                (record { low = omega arith; high = omega arith; fits = s7.fits; suits = s7.suits }, tt),
              ),
            ),
          ),
        ),
      ),
    )

varint_back : (n : ℕ) → value_or number_in 0 (nonzero_varint n) ≡ n
varint_back n = elim (cases_eq n 0) [ inl none ↦ rw none refl | inr some ↦ rw (ne_eqb n 0 some) refl ]

fixed32_back : (n : ℕ) → value_or number_in 0 (nonzero_fixed32 n) ≡ n
fixed32_back n = elim (cases_eq n 0) [ inl none ↦ rw none refl | inr some ↦ rw (ne_eqb n 0 some) refl ]

bytes_back : (content : List ℕ) → value_or content_in [] (nonempty_bytes content) ≡ content
bytes_back content = elim (cases_eq (length content) 0) [
  | inl none ↦ rw none (sym (nil_from_length content none))
  | inr some ↦ rw (ne_eqb (length content) 0 some) refl
]

-- the fields that are present say what the message says
says_itself : (m : Message) → message_in (present (packet_entries m)) ≡ m
unfolding packet_entries
says_itself m = rw (
  last_after-present number_in 0 1 (packet_entries m),
  last_after-present number_in 0 2 (packet_entries m),
  last_after-present number_in 0 3 (packet_entries m),
  last_after-present number_in 0 4 (packet_entries m),
  last_after-present content_in [] 5 (packet_entries m),
  last_after-present number_in 0 6 (packet_entries m),
  last_after-present number_in 0 7 (packet_entries m),
  varint_back m.ptype,
  varint_back m.name.channel,
  fixed32_back m.name.service,
  fixed32_back m.name.method,
  bytes_back m.payload,
  varint_back m.status,
  varint_back m.name.call,
) refl

-- what is written is read as itself
pub spelling_reads : (m : Message) → IsWithinLimits m → packet_of (spelling_of m) ≡ Ok m
unfolding packet_of spelling_of
spelling_reads m is =
    let fit = entries_fit m is in
    rw (written_fault packet_fields (packet_entries m) fit, written_fields packet_fields (packet_entries m) fit, says_itself m) refl

-- the numbers of types are small
pub type_within : (t : PacketType) → type_number t < 2 ^ 64
type_within Request = omega arith
type_within Response = omega arith
type_within ClientStream = omega arith
type_within ClientError = omega arith
type_within ServerError = omega arith
type_within ServerStream = omega arith
type_within Completion = omega arith
