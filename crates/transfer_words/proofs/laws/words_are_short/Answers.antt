use Rattle.transfer_words.proofs.SpokenLaws as spoken_laws
use Rattle.transfer_words.proofs.laws.words_are_short.Goals as goal

pub returns : goal.returns
returns c = spoken_laws.words_are_short
