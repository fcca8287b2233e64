use Rattle.link_laws.proofs.lossless_transfer.Finishing.{reads_finish}
use Rattle.link_laws.proofs.lossless_transfer.laws.reads_finish.Goals as goal

pub returns : goal.returns
returns c = reads_finish
