-- What bytes say, and the same computed.
use Rattle.std.proofs.Common.{◌≡◌, ℕ, List, IfOk, IfErr, Result, Ok, ◌∙◌}
use Rattle.proto_wire.specs.declared.fields.Malformed.{Malformed}
use Rattle.proto_wire.proofs.ReadsLaws.{fault_read, only_value, value_read}
use Rattle.transfer_chunk.specs.declared.chunk.ChunkRef.{ChunkRef}
use Rattle.transfer_chunk.specs.Chunk.{Chunk, lent_chunk, declared, chunk_after, no_chunk}
use Rattle.transfer_chunk.specs.Reading.{IsChunk, IsFaultAt, chunk_of, seen}

pub read_chunk : (bytes : List ℕ) (r : Result ChunkRef Malformed) → seen r ≡ chunk_of bytes → IfOk r (λ c. IsChunk bytes (lent_chunk c))
unfolding chunk_of
read_chunk bytes r e = value_read lent_chunk declared (chunk_after no_chunk) bytes r e

pub read_fault : (bytes : List ℕ) (r : Result ChunkRef Malformed) → seen r ≡ chunk_of bytes → IfErr r (λ m. IsFaultAt bytes m.at)
unfolding chunk_of
read_fault bytes r e = fault_read lent_chunk declared (chunk_after no_chunk) bytes r e

pub read_only : (bytes : List ℕ) (r : Result ChunkRef Malformed) (c : Chunk) → seen r ≡ chunk_of bytes → IsChunk bytes c → seen r ≡ Ok c
unfolding chunk_of
read_only bytes r c e h = e ∙ only_value declared (chunk_after no_chunk) bytes c h
