use Rattle.link_laws.proofs.dropped_scripts.Walking.{lossy_runs_end_well}
use Rattle.link_laws.proofs.dropped_scripts.laws.lossy_runs_end_well.Goals as goal

pub returns : goal.returns
returns c = lossy_runs_end_well
