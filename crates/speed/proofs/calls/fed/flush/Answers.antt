use Rattle.speed.proofs.FedSteps.{fed_flushed}
use Rattle.speed.proofs.calls.fed.flush.Goals as goal

pub returns : goal.returns
returns c = record { fed = λ fed. fed_flushed _ _ _ _ c.flush_front.ensures.setting c.flush_front.ensures.did fed }
