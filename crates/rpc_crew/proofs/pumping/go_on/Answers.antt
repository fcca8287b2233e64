use Rattle.std.proofs.Common.{ap}
use Rattle.rpc_journal.specs.Items.{moments}
use Rattle.rpc_crew.proofs.pumping.go_on.Goals as goal

pub returns-in-Some-clause-ticks : goal.returns-in-Some-clause-ticks
returns-in-Some-clause-ticks g c = ap moments c.offer.ensures.mine
