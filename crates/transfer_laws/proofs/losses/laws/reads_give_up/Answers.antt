use Rattle.transfer_laws.proofs.losses.GivesUp.{reads_give_up}
use Rattle.transfer_laws.proofs.losses.laws.reads_give_up.Goals as goal

pub returns : goal.returns
returns c = reads_give_up
