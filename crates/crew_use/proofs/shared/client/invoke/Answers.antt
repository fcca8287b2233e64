use Rattle.crew_use.proofs.Seats.{still_seated}
use Rattle.crew_use.proofs.shared.client.invoke.Goals as goal

pub returns : goal.returns
returns g c = record { seat = still_seated c.args.shared.now _ _ _ _ c.requires.seat c.invoke.ensures.did }
