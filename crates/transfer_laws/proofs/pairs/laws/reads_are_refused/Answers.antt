use Rattle.transfer_laws.proofs.pairs.Refusals.{reads_are_refused}
use Rattle.transfer_laws.proofs.pairs.laws.reads_are_refused.Goals as goal

pub returns : goal.returns
returns c = reads_are_refused
