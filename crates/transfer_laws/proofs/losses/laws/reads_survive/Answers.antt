use Rattle.transfer_laws.proofs.losses.ReadLaws.{reads_survive}
use Rattle.transfer_laws.proofs.losses.laws.reads_survive.Goals as goal

pub returns : goal.returns
returns c = reads_survive
