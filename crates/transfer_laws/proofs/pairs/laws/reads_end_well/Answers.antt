use Rattle.transfer_laws.proofs.pairs.Downloads.{reads_end_well}
use Rattle.transfer_laws.proofs.pairs.laws.reads_end_well.Goals as goal

pub returns : goal.returns
returns c = reads_end_well
