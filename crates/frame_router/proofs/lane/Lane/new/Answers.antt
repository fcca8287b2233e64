use Rattle.frame_router.proofs.Segments.{nothing_routed}
use Rattle.frame_router.proofs.lane.Lane.new.Goals as goal

pub returns-clause-routed : goal.returns-clause-routed
returns-clause-routed c = λ routes from. nothing_routed routes from _ c.in_ok-new.ensures.limit c.in_ok-new.ensures.read c.new-2.ensures.items c.none.ensures
