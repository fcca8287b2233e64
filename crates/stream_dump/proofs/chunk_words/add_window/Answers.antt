use Rattle.std.proofs.Common.{◌≡◌, ◌++◌, codes}
use Rattle.transfer_chunk.specs.Chunk.{lent_chunk}
use Rattle.stream_dump.specs.Chunks.{kept_words, number_words, window_words}
use Rattle.stream_dump.proofs.WordLemmas.{adds_as, adds_then}
use Rattle.stream_dump.proofs.chunk_words.add_window.Goals as goal

pub returns : goal.returns
returns c =
    let same : number_words (codes "window_end") c.from.result ++ kept_words (codes "max_chunk") c.widened.result ++ kept_words (codes "pending") c.widened-2.result ++ number_words (codes "min_delay") c.from-2.result ≡ window_words (lent_chunk c.args.chunk.now) = cc in
    adds_as 8 _ _ _ _ (adds_then 6 2 _ _ _ _ _ (adds_then 4 2 _ _ _ _ _ (adds_then 2 2 _ _ _ _ _ c.add_number.ensures c.add_kept.ensures) c.add_kept-2.ensures) c.add_number-2.ensures) same
