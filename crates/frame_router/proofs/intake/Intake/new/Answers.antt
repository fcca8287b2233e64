use Rattle.frame_router.proofs.GatherLemmas.{nothing_counted}
use Rattle.frame_router.proofs.intake.Intake.new.Goals as goal

pub returns : goal.returns
returns c = λ routes from. nothing_counted routes from _ c.in_ok-new.ensures.limit c.in_ok-new.ensures.read c.none.ensures
