use Rattle.transfer_chunk.proofs.ChunkLaws.{chunk_text_reads}
use Rattle.transfer_chunk.proofs.laws.written_chunk_is_read.Goals as goal

pub returns : goal.returns
returns c = chunk_text_reads
