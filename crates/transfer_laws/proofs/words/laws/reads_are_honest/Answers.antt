use Rattle.transfer_laws.proofs.words.Service.{reads_are_honest}
use Rattle.transfer_laws.proofs.words.laws.reads_are_honest.Goals as goal

pub returns : goal.returns
returns c = reads_are_honest
