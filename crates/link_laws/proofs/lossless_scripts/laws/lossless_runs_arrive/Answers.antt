use Rattle.link_laws.proofs.lossless_scripts.Arriving.{lossless_runs_arrive}
use Rattle.link_laws.proofs.lossless_scripts.laws.lossless_runs_arrive.Goals as goal

pub returns : goal.returns
returns c = lossless_runs_arrive
