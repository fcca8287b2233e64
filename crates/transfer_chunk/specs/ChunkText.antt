-- How a chunk is written: its fields by rising number, each where it has a value.
use Rattle.std.specs.Prelude.{ℕ, ◌<◌, ◌^◌, List, [], ◌∷◌, Option, option_map, IfSome, length}
use Rattle.proto_wire.specs.Absent.{nonzero_varint, nonempty_bytes}
use Rattle.proto_wire.specs.Entries.{Entry, present, fields_text}
use Rattle.proto_wire.specs.Field.{Varint}
use Rattle.transfer_chunk.specs.Chunk.{Chunk}

-- a number that is left out where it is 0, one that is written wherever it is there, and data that is left out where it is empty
abbrev pub number_entry : ℕ → ℕ → Entry
number_entry number n = record { number = number; value = nonzero_varint n }

abbrev pub kept_entry : ℕ → Option ℕ → Entry
kept_entry number n = record { number = number; value = option_map Varint n }

abbrev pub data_entry : ℕ → List ℕ → Entry
data_entry number content = record { number = number; value = nonempty_bytes content }

abbrev pub chunk_entries : Chunk → List Entry
chunk_entries c =
    number_entry 1 c.transfer_id ∷ kept_entry 2 c.pending ∷ kept_entry 3 c.max_chunk ∷ number_entry 4 c.min_delay
    ∷ number_entry 5 c.offset ∷ data_entry 6 c.bytes ∷ kept_entry 7 c.remaining ∷ kept_entry 8 c.status
    ∷ number_entry 9 c.window_end ∷ kept_entry 10 c.ctype ∷ kept_entry 11 c.resource ∷ kept_entry 12 c.session
    ∷ kept_entry 13 c.version ∷ kept_entry 14 c.desired ∷ number_entry 15 c.initial ∷ []

-- the one spelling of a chunk
unfoldable pub chunk_text : Chunk → List ℕ
chunk_text c = fields_text (present (chunk_entries c))

-- the numbers of a chunk are those of its fields' types
pub record HasWidths (c : Chunk) : Type 0 where
  pub transfer_id : c.transfer_id < 2 ^ 32
  pub pending : IfSome c.pending (λ n. n < 2 ^ 32)
  pub max_chunk : IfSome c.max_chunk (λ n. n < 2 ^ 32)
  pub min_delay : c.min_delay < 2 ^ 32
  pub offset : c.offset < 2 ^ 64
  pub bytes : length c.bytes < 2 ^ 64
  pub remaining : IfSome c.remaining (λ n. n < 2 ^ 64)
  pub status : IfSome c.status (λ n. n < 2 ^ 32)
  pub window_end : c.window_end < 2 ^ 32
  pub ctype : IfSome c.ctype (λ n. n < 2 ^ 64)
  pub resource : IfSome c.resource (λ n. n < 2 ^ 32)
  pub session : IfSome c.session (λ n. n < 2 ^ 32)
  pub version : IfSome c.version (λ n. n < 2 ^ 32)
  pub desired : IfSome c.desired (λ n. n < 2 ^ 32)
  pub initial : c.initial < 2 ^ 64
