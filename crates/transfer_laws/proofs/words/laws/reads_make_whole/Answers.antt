use Rattle.transfer_laws.proofs.words.Downloads.{reads_make_whole}
use Rattle.transfer_laws.proofs.words.laws.reads_make_whole.Goals as goal

pub returns : goal.returns
returns c = reads_make_whole
