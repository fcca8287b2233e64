use Rattle.link_laws.proofs.one_run.Order.{nothing_is_lost}
use Rattle.link_laws.proofs.one_run.laws.nothing_is_lost.Goals as goal

pub returns : goal.returns
returns c = nothing_is_lost
