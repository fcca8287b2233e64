use Rattle.link_laws.proofs.dropped_transfer.Survive.{refusals_survive_drops}
use Rattle.link_laws.proofs.dropped_transfer.laws.refusals_survive_drops.Goals as goal

pub returns : goal.returns
returns c = refusals_survive_drops
