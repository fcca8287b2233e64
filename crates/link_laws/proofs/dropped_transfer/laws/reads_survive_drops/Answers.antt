use Rattle.link_laws.proofs.dropped_transfer.Survive.{reads_survive_drops}
use Rattle.link_laws.proofs.dropped_transfer.laws.reads_survive_drops.Goals as goal

pub returns : goal.returns
returns c = reads_survive_drops
