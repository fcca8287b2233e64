use Rattle.transfer_words.proofs.SpokenLaws as spoken_laws
use Rattle.transfer_words.proofs.laws.words_are_heard.Goals as goal

pub returns : goal.returns
returns c = spoken_laws.words_are_heard
