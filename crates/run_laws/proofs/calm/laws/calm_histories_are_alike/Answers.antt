use Rattle.run_laws.proofs.calm.Same.{settles_alike}
use Rattle.run_laws.proofs.calm.laws.calm_histories_are_alike.Goals as goal

pub returns : goal.returns
returns c = settles_alike
