use Rattle.rpc_journal.specs.Ran.{run_in}
use Rattle.speed.proofs.FedSteps.{fed_started, run_started}
use Rattle.speed.proofs.calls.fed.start.Goals as goal

pub returns-clause-fed : goal.returns-clause-fed
returns-clause-fed c = λ fed. fed_started run_in _ _ _ _ _ c.start.ensures.setting c.start.ensures.did fed

pub returns-clause-on : goal.returns-clause-on
returns-clause-on c = run_started run_in _ _ _ _ _ c.start.ensures.setting c.start.ensures.did
