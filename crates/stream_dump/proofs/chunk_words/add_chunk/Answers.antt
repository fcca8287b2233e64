use Rattle.std.proofs.Common.{ap, lit≤}
use Rattle.stream_dump.specs.Chunks.{chunk_said}
use Rattle.stream_dump.proofs.WordLemmas.{adds_as, adds_more}
use Rattle.stream_dump.proofs.chunk_words.add_chunk.Goals as goal

pub returns-in-Err : goal.returns-in-Err
returns-in-Err c = adds_as 31 _ _ _ _ (adds_more 4 31 _ _ _ (lit≤ tt) c.add.ensures) (ap chunk_said c.in-Err.ensures.value)
