-- The chunk that fields make.
use Rattle.std.specs.Prelude.{ℕ, if◌then◌else◌, List, [], ◌∷◌, Option, Some, None, slice_get, unwrap_or}
use Rattle.proto_wire.specs.Field.{WireField}
use Rattle.proto_wire.specs.Typed.{FieldType, Undeclared, Uint64, Uint32, SomeBytes, may_have, number_in, some_number_in, content_in, last_after}
use Rattle.transfer_chunk.specs.declared.chunk.ChunkRef.{ChunkRef}

-- a chunk's fields as plain values
pub record Chunk : Type 0 where
  pub transfer_id : ℕ
  pub pending : Option ℕ
  pub max_chunk : Option ℕ
  pub min_delay : ℕ
  pub offset : ℕ
  pub bytes : List ℕ
  pub remaining : Option ℕ
  pub status : Option ℕ
  pub window_end : ℕ
  pub ctype : Option ℕ
  pub resource : Option ℕ
  pub session : Option ℕ
  pub version : Option ℕ
  pub desired : Option ℕ
  pub initial : ℕ

-- what a chunk whose data is lent stands for
abbrev pub lent_chunk : ChunkRef → Chunk
lent_chunk c = record {
  transfer_id = c.transfer_id;
  pending = c.pending;
  max_chunk = c.max_chunk;
  min_delay = c.min_delay;
  offset = c.offset;
  bytes = c.bytes.now;
  remaining = c.remaining;
  status = c.status;
  window_end = c.window_end;
  ctype = c.ctype;
  resource = c.resource;
  session = c.session;
  version = c.version;
  desired = c.desired;
  initial = c.initial;
}

-- the types of the fields 1 to 15
abbrev pub field_types : List FieldType
field_types =
    Uint32 ∷ Uint32 ∷ Uint32 ∷ Uint32 ∷ Uint64 ∷ SomeBytes ∷ Uint64 ∷ Uint32 ∷ Uint32 ∷ Uint64 ∷ Uint32 ∷ Uint32 ∷ Uint32 ∷ Uint32 ∷ Uint64 ∷ []

-- how a chunk declares the field of this number
unfoldable pub declared : ℕ → FieldType
declared number = unwrap_or (slice_get (Undeclared ∷ field_types) number) Undeclared

-- the chunk after these fields, of which the last of a number counts; without one its value is that of the chunk before
abbrev pub chunk_after : Chunk → List WireField → Chunk
chunk_after c fs = record {
  transfer_id = last_after number_in c.transfer_id 1 fs;
  pending = last_after some_number_in c.pending 2 fs;
  max_chunk = last_after some_number_in c.max_chunk 3 fs;
  min_delay = last_after number_in c.min_delay 4 fs;
  offset = last_after number_in c.offset 5 fs;
  bytes = last_after content_in c.bytes 6 fs;
  remaining = last_after some_number_in c.remaining 7 fs;
  status = last_after some_number_in c.status 8 fs;
  window_end = last_after number_in c.window_end 9 fs;
  ctype = last_after some_number_in c.ctype 10 fs;
  resource = last_after some_number_in c.resource 11 fs;
  session = last_after some_number_in c.session 12 fs;
  version = last_after some_number_in c.version 13 fs;
  desired = last_after some_number_in c.desired 14 fs;
  initial = last_after number_in c.initial 15 fs;
}

-- the chunk with one more field, if it is as declared
abbrev pub taken : Chunk → WireField → Option Chunk
taken c f = if may_have (declared f.number) f.value then Some (chunk_after c (f ∷ [])) else None

-- the chunk of no fields
abbrev pub no_chunk : Chunk
no_chunk = record {
  transfer_id = 0;
  pending = None;
  max_chunk = None;
  min_delay = 0;
  offset = 0;
  bytes = [];
  remaining = None;
  status = None;
  window_end = 0;
  ctype = None;
  resource = None;
  session = None;
  version = None;
  desired = None;
  initial = 0;
}
