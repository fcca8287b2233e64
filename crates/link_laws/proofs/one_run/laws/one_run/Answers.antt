use Rattle.link_laws.proofs.one_run.OneRun.{runs_are_one, runs_stay_within, turns_are_one}
use Rattle.link_laws.proofs.one_run.laws.one_run.Goals as goal

pub returns-clause-turns : goal.returns-clause-turns
returns-clause-turns c = turns_are_one

pub returns-clause-runs : goal.returns-clause-runs
returns-clause-runs c = runs_are_one

pub returns-clause-within : goal.returns-clause-within
returns-clause-within c = runs_stay_within
