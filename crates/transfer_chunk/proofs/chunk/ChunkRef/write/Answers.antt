use Rattle.transfer_chunk.specs.Chunk.{lent_chunk}
use Rattle.transfer_chunk.proofs.ChunkLaws.{chunk_text_reads}
use Rattle.transfer_chunk.proofs.chunk.ChunkRef.write.Goals as goal

pub returns-clause-again : goal.returns-clause-again
returns-clause-again c = chunk_text_reads (lent_chunk c.args.self.now) c.fields.ensures.widths
