use Rattle.link_laws.proofs.dropped_transfer.InTime.{reads_end_over_drops}
use Rattle.link_laws.proofs.dropped_transfer.laws.reads_end_over_drops.Goals as goal

pub returns : goal.returns
returns c = reads_end_over_drops
