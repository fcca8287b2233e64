use Rattle.std.proofs.Common.{refl, ◌∙◌}
use Rattle.crew_use.proofs.Seats.{first_feeds, still_seated}
use Rattle.crew_use.proofs.shared.crew.feed.Goals as goal

pub loop-call-init : goal.loop-call-init
loop-call-init g c = record { feeder = first_feeds c.args.shared.now _ c.requires.new c.requires.first; number = refl }

pub returns-clause-seat : goal.returns-clause-seat
returns-clause-seat g c = still_seated c.args.shared.now _ _ _ _ c.loop-call.invariant.feeder.seat c.end_in.ensures.did

pub returns-clause-number : goal.returns-clause-number
returns-clause-number g c = c.end_in.ensures.did.same.number ∙ c.loop-call.invariant.number
