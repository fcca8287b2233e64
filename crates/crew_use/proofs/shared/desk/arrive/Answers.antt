use Rattle.crew_use.proofs.Seats.{still_feeding}
use Rattle.crew_use.proofs.shared.desk.arrive.Goals as goal

pub returns-clause-feeder : goal.returns-clause-feeder
returns-clause-feeder g c = still_feeding c.args.shared.now _ _ _ _ c.requires.feeder c.arrive.ensures.did c.arrive.ensures.open

pub returns-clause-number : goal.returns-clause-number
returns-clause-number g c = c.arrive.ensures.did.same.number
