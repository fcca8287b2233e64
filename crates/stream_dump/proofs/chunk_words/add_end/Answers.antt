use Rattle.std.proofs.Common.{◌≡◌, ◌++◌, codes}
use Rattle.transfer_chunk.specs.Chunk.{lent_chunk}
use Rattle.stream_dump.specs.Chunks.{end_words, ended_words, number_words}
use Rattle.stream_dump.proofs.WordLemmas.{adds_as, adds_then}
use Rattle.stream_dump.proofs.chunk_words.add_end.Goals as goal

pub returns : goal.returns
returns c =
    let same : ended_words c.args.chunk.now.status ++ number_words (codes "transfer_id") c.from.result ≡ end_words (lent_chunk c.args.chunk.now) = cc in
    adds_as 4 _ _ _ _ (adds_then 2 2 _ _ _ _ _ c.add_ended.ensures c.add_number.ensures) same
