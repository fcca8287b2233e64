use Rattle.transfer_chunk.proofs.ReadingLaws.{read_chunk, read_fault, read_only}
use Rattle.transfer_chunk.proofs.chunk.ChunkRef.read.Goals as goal

pub returns : goal.returns
returns c = record {
  chunk = read_chunk c.args.bytes.now c.read_fields.result c.read_fields.ensures;
  only = λ chunk h. read_only c.args.bytes.now c.read_fields.result chunk c.read_fields.ensures h;
  fault = read_fault c.args.bytes.now c.read_fields.result c.read_fields.ensures;
  value = c.read_fields.ensures;
}
