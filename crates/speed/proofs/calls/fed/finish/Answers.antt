use Rattle.speed.proofs.FedSteps.{fed_finished}
use Rattle.speed.proofs.calls.fed.finish.Goals as goal

pub returns : goal.returns
returns c = record { fed = λ fed. fed_finished _ _ _ _ _ _ c.finish.ensures.setting c.finish.ensures.did.2 fed }
