use Rattle.std.proofs.Common.{◌+◌, length}
use Rattle.std.specs.Prelude.{if◌then◌else◌}
use Rattle.proto_wire.specs.Reading.{unread}
use Rattle.transfer_chunk.specs.Chunk.{Chunk}
use Rattle.transfer_chunk.specs.Reading.{chunk_of}
use Rattle.transfer_chunk.proofs.ReadSteps.{LeadsTo}
use Rattle.transfer_chunk.proofs.chunk.ChunkRef.read_fields.Given as goal

-- the chunk so far, with the fields to come, is the whole
abbrev pub invariant-fields : goal.invariant-fields
invariant-fields l =
    let so_far : Chunk = record {
      transfer_id = l.chunk.0;
      pending = l.chunk.1.0;
      max_chunk = l.chunk.1.1.0;
      min_delay = l.chunk.1.1.1.0;
      offset = l.chunk.1.1.1.1.0;
      bytes = l.chunk.1.1.1.1.1.0.now;
      remaining = l.chunk.1.1.1.1.1.1.0;
      status = l.chunk.1.1.1.1.1.1.1.0;
      window_end = l.chunk.1.1.1.1.1.1.1.1.0;
      ctype = l.chunk.1.1.1.1.1.1.1.1.1.0;
      resource = l.chunk.1.1.1.1.1.1.1.1.1.1.0;
      session = l.chunk.1.1.1.1.1.1.1.1.1.1.1.0;
      version = l.chunk.1.1.1.1.1.1.1.1.1.1.1.1.0;
      desired = l.chunk.1.1.1.1.1.1.1.1.1.1.1.1.1.0;
      initial = l.chunk.1.1.1.1.1.1.1.1.1.1.1.1.1.1.0;
    } in
    LeadsTo (unread l.fields) so_far (chunk_of l.bytes)

abbrev pub decreases-fields : goal.decreases-fields
decreases-fields l = if l.fields.failed then 0 else length l.fields.left + 1
