-- How long the spelling of a chunk is.
use Rattle.std.proofs.Common.{ℕ, zero, suc, ◌+◌, ◌*◌, ◌%◌, ◌/◌, ◌≤◌, ◌==◌, Bool, true, false, if◌then◌else◌, nat_lt, List, [], ◌∷◌, length, Option, Some, None, option_map, IfSome, arith, length-append}
use Rattle.proto_wire.specs.Absent.{nonempty_bytes, nonzero_varint}
use Rattle.proto_wire.specs.Entries.{Entry, present, fields_text}
use Rattle.proto_wire.specs.Field.{WireValue, Varint, Bytes, wire_type}
use Rattle.proto_wire.specs.Spelling.{field_text, value_text}
use Rattle.proto_wire.specs.Varint.{groups_of, varint_text}
use Rattle.transfer_chunk.specs.Chunk.{Chunk}
use Rattle.transfer_chunk.specs.ChunkText.{number_entry, kept_entry, data_entry, chunk_text}

groups_by : (k n : ℕ) (b : Bool) → length (groups_of k (n / 128)) ≤ k → length (if b then n ∷ [] else (128 + n % 128) ∷ groups_of k (n / 128)) ≤ suc k
groups_by k n true rest = omega arith
groups_by k n false rest = omega (arith, rest)

groups_short : (k n : ℕ) → length (groups_of k n) ≤ k
unfolding groups_of
groups_short zero n = omega arith
groups_short (suc k) n = groups_by k n (nat_lt n 128) (groups_short k (n / 128))

varint_short : (n : ℕ) → length (varint_text n) ≤ 10
unfolding varint_text
varint_short n = groups_short 10 n

field_short : (number : ℕ) (v : WireValue) (most : ℕ) → length (value_text v) ≤ most → length (field_text (record { number = number; value = v })) ≤ 10 + most
unfolding field_text
field_short number v most short =
    let tag = varint_short (number * 8 + wire_type v) in
    omega (arith, short, tag, length-append (varint_text (number * 8 + wire_type v)) (value_text v))

-- one entry more
more :
    (number : ℕ) (v : Option WireValue) (most : ℕ) (es : List Entry) (rest : ℕ) → IfSome v (λ w. length (value_text w) ≤ most) →
    length (fields_text (present es)) ≤ rest → length (fields_text (present (record { number = number; value = v } ∷ es))) ≤ 10 + most + rest
more number None most es rest short before = omega (arith, before)
more number (Some v) most es rest short before =
    let first = field_short number v most short in
    omega (arith, before, first, length-append (field_text (record { number = number; value = v })) (fields_text (present es)))

number_by : (n : ℕ) (b : Bool) → IfSome (if b then None else Some (Varint n)) (λ w. length (value_text w) ≤ 10)
number_by n true = tt
number_by n false = varint_short n

number_short : (n : ℕ) → IfSome (nonzero_varint n) (λ w. length (value_text w) ≤ 10)
number_short n = number_by n (n == 0)

kept_short : (o : Option ℕ) → IfSome (option_map Varint o) (λ w. length (value_text w) ≤ 10)
kept_short None = tt
kept_short (Some n) = varint_short n

bytes_by : (content : List ℕ) (b : Bool) → IfSome (if b then None else Some (Bytes content)) (λ w. length (value_text w) ≤ 10 + length content)
bytes_by content true = tt
bytes_by content false = omega (arith, varint_short (length content), length-append (varint_text (length content)) content)

bytes_short : (content : List ℕ) → IfSome (nonempty_bytes content) (λ w. length (value_text w) ≤ 10 + length content)
bytes_short content = bytes_by content (length content == 0)

-- whatever its numbers are, a chunk is not much longer than its data
pub chunk_short : (c : Chunk) → length (chunk_text c) ≤ length c.bytes + 300
unfolding chunk_text
chunk_short c =
    let from_15 = more 15 (nonzero_varint c.initial) 10 [] 0 (number_short c.initial) (omega arith) in
    let fields_15 : List Entry = number_entry 15 c.initial ∷ [] in
    let from_14 = more 14 (option_map Varint c.desired) 10 fields_15 20 (kept_short c.desired) from_15 in
    let fields_14 : List Entry = kept_entry 14 c.desired ∷ fields_15 in
    let from_13 = more 13 (option_map Varint c.version) 10 fields_14 40 (kept_short c.version) from_14 in
    let fields_13 : List Entry = kept_entry 13 c.version ∷ fields_14 in
    let from_12 = more 12 (option_map Varint c.session) 10 fields_13 60 (kept_short c.session) from_13 in
    let fields_12 : List Entry = kept_entry 12 c.session ∷ fields_13 in
    let from_11 = more 11 (option_map Varint c.resource) 10 fields_12 80 (kept_short c.resource) from_12 in
    let fields_11 : List Entry = kept_entry 11 c.resource ∷ fields_12 in
    let from_10 = more 10 (option_map Varint c.ctype) 10 fields_11 100 (kept_short c.ctype) from_11 in
    let fields_10 : List Entry = kept_entry 10 c.ctype ∷ fields_11 in
    let from_9 = more 9 (nonzero_varint c.window_end) 10 fields_10 120 (number_short c.window_end) from_10 in
    let fields_9 : List Entry = number_entry 9 c.window_end ∷ fields_10 in
    let from_8 = more 8 (option_map Varint c.status) 10 fields_9 140 (kept_short c.status) from_9 in
    let fields_8 : List Entry = kept_entry 8 c.status ∷ fields_9 in
    let from_7 = more 7 (option_map Varint c.remaining) 10 fields_8 160 (kept_short c.remaining) from_8 in
    let fields_7 : List Entry = kept_entry 7 c.remaining ∷ fields_8 in
    let from_6 = more 6 (nonempty_bytes c.bytes) (10 + length c.bytes) fields_7 180 (bytes_short c.bytes) from_7 in
    let fields_6 : List Entry = data_entry 6 c.bytes ∷ fields_7 in
    let from_5 = more 5 (nonzero_varint c.offset) 10 fields_6 (10 + (10 + length c.bytes) + 180) (number_short c.offset) from_6 in
    let fields_5 : List Entry = number_entry 5 c.offset ∷ fields_6 in
    let from_4 = more 4 (nonzero_varint c.min_delay) 10 fields_5 (20 + (10 + (10 + length c.bytes) + 180)) (number_short c.min_delay) from_5 in
    let fields_4 : List Entry = number_entry 4 c.min_delay ∷ fields_5 in
    let from_3 = more 3 (option_map Varint c.max_chunk) 10 fields_4 (20 + (20 + (10 + (10 + length c.bytes) + 180))) (kept_short c.max_chunk) from_4 in
    let fields_3 : List Entry = kept_entry 3 c.max_chunk ∷ fields_4 in
    let from_2 = more 2 (option_map Varint c.pending) 10 fields_3 (20 + (20 + (20 + (10 + (10 + length c.bytes) + 180)))) (kept_short c.pending) from_3 in
    let fields_2 : List Entry = kept_entry 2 c.pending ∷ fields_3 in
    let from_1 = more 1 (nonzero_varint c.transfer_id) 10 fields_2 (20 + (20 + (20 + (20 + (10 + (10 + length c.bytes) + 180))))) (number_short c.transfer_id) from_2 in
    let fields_1 : List Entry = number_entry 1 c.transfer_id ∷ fields_2 in
    omega (arith, from_1)
