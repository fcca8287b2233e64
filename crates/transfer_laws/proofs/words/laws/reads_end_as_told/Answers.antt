use Rattle.transfer_laws.proofs.words.Service.{reads_end_as_told}
use Rattle.transfer_laws.proofs.words.laws.reads_end_as_told.Goals as goal

pub returns : goal.returns
returns c = reads_end_as_told
