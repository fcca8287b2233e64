use Rattle.transfer_laws.proofs.losses.GivesUp.{reads_end_so}
use Rattle.transfer_laws.proofs.losses.laws.reads_end_so.Goals as goal

pub returns : goal.returns
returns c = reads_end_so
