use Rattle.crew_use.proofs.Seats.{still_seated, tried_seated}
use Rattle.crew_use.proofs.shared.jobs.try_cancel.Goals as goal

pub returns : goal.returns
returns g c = record { seat = tried_seated c.args.shared.now _ _ _ _ c.try_cancel.result (still_seated c.args.shared.now _ _ _ _ c.requires.seat c.look-look.ensures.did) c.try_cancel.ensures.did c.try_cancel.ensures.busy }
