use Rattle.crew_use.proofs.Seats.{still_seated}
use Rattle.crew_use.proofs.shared.jobs.start.Goals as goal

pub returns-clause-seat : goal.returns-clause-seat
returns-clause-seat g c = still_seated c.args.shared.now _ _ _ _ c.requires.seat c.start.ensures.did

pub returns-clause-number : goal.returns-clause-number
returns-clause-number g c = c.start.ensures.did.same.number
