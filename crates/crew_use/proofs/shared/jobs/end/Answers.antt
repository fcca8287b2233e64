use Rattle.crew_use.proofs.Seats.{still_seated}
use Rattle.crew_use.proofs.shared.jobs.end.Goals as goal

pub returns-clause-seat : goal.returns-clause-seat
returns-clause-seat g c = still_seated c.args.shared.now _ _ _ _ c.requires.seat c.finish.ensures.did.2

pub returns-clause-number : goal.returns-clause-number
returns-clause-number g c = c.finish.ensures.did.2.same.number
