use Rattle.transfer_laws.proofs.losses.WriteLaws.{writes_survive}
use Rattle.transfer_laws.proofs.losses.laws.writes_survive.Goals as goal

pub returns : goal.returns
returns c = writes_survive
