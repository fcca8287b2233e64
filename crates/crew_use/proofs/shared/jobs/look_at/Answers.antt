use Rattle.crew_use.proofs.Seats.{still_seated}
use Rattle.crew_use.proofs.shared.jobs.look_at.Goals as goal

pub returns-clause-seat : goal.returns-clause-seat
returns-clause-seat g c = still_seated c.args.shared.now _ _ _ _ c.requires.seat c.look.ensures.did

pub returns-clause-number : goal.returns-clause-number
returns-clause-number g c = c.look.ensures.did.same.number
