use Rattle.run_laws.proofs.calm.Compare.{runs_begin_alike}
use Rattle.run_laws.proofs.calm.laws.calm_runs_begin_alike.Goals as goal

pub returns : goal.returns
returns c = runs_begin_alike
