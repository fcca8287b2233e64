use Rattle.transfer_laws.proofs.losses.ReadLaws.{reads_end_in_time}
use Rattle.transfer_laws.proofs.losses.laws.reads_end_in_time.Goals as goal

pub returns : goal.returns
returns c = reads_end_in_time
