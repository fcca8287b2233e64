use Rattle.run_laws.proofs.statuses.CrewLemmas.{crews_write_alike}
use Rattle.run_laws.proofs.statuses.laws.calm_crews_write_alike.Goals as goal

pub returns : goal.returns
returns c = crews_write_alike
