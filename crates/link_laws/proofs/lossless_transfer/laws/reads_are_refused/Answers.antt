use Rattle.link_laws.proofs.lossless_transfer.Finishing.{reads_are_refused}
use Rattle.link_laws.proofs.lossless_transfer.laws.reads_are_refused.Goals as goal

pub returns : goal.returns
returns c = reads_are_refused
