use Rattle.link_laws.proofs.dropped_transfer.InTime.{writes_end_over_drops}
use Rattle.link_laws.proofs.dropped_transfer.laws.writes_end_over_drops.Goals as goal

pub returns : goal.returns
returns c = writes_end_over_drops
