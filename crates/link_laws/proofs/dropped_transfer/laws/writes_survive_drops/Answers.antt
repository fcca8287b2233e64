use Rattle.link_laws.proofs.dropped_transfer.Survive.{writes_survive_drops}
use Rattle.link_laws.proofs.dropped_transfer.laws.writes_survive_drops.Goals as goal

pub returns : goal.returns
returns c = writes_survive_drops
