-- What the bytes of a chunk say, and where they are at fault.
use Rattle.std.specs.Prelude.{ℕ, List, Result}
use Rattle.proto_wire.specs.Message.{Message, fields_of, wire_fields}
use Rattle.proto_wire.specs.Reads.{IsAtFault, Reads, answered, unless_fault}
use Rattle.proto_wire.specs.Typed.{fault_of}
use Rattle.proto_wire.specs.declared.fields.Malformed.{Malformed}
use Rattle.transfer_chunk.specs.declared.chunk.ChunkRef.{ChunkRef}
use Rattle.transfer_chunk.specs.Chunk.{Chunk, lent_chunk, declared, chunk_after, no_chunk}

-- The bytes are read as fields, all as a chunk declares them, and this is what they say.
abbrev pub IsChunk : List ℕ → Chunk → Type 0
IsChunk bytes c = Reads declared (chunk_after no_chunk) bytes c

-- At this offset, and at none before, a field isn't as a chunk declares it, or none can be read.
abbrev pub IsFaultAt : List ℕ → ℕ → Type 0
IsFaultAt bytes at = IsAtFault declared bytes at

-- the chunk after what was read of a message, or the offset of the first field at fault
abbrev pub read_after : Chunk → Message → Result Chunk ℕ
read_after c m = unless_fault (chunk_after c (wire_fields m)) (fault_of declared m)

-- the chunk that these bytes spell, or the offset of the first field at fault
unfoldable pub chunk_of : List ℕ → Result Chunk ℕ
chunk_of bytes = read_after no_chunk (fields_of bytes)

-- the answer of a reader, apart from where the data lies in memory
abbrev pub seen : Result ChunkRef Malformed → Result Chunk ℕ
seen r = answered lent_chunk r
