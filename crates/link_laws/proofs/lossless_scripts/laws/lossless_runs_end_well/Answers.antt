use Rattle.link_laws.proofs.lossless_scripts.Walking.{lossless_runs_end_well}
use Rattle.link_laws.proofs.lossless_scripts.laws.lossless_runs_end_well.Goals as goal

pub returns : goal.returns
returns c = lossless_runs_end_well
