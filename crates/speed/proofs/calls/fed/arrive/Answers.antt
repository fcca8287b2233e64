use Rattle.speed.proofs.FedSteps.{fed_arrived}
use Rattle.speed.proofs.calls.fed.arrive.Goals as goal

pub returns : goal.returns
returns c = fed_arrived _ _ _ _ c.arrive.ensures.setting c.arrive.ensures.did c.requires.fed
