use Rattle.link_laws.proofs.dropped_scripts.Walking.{lossy_runs_end_in_time}
use Rattle.link_laws.proofs.dropped_scripts.laws.lossy_runs_end_in_time.Goals as goal

pub returns : goal.returns
returns c = lossy_runs_end_in_time
