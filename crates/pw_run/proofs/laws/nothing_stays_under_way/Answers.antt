use Rattle.pw_run.proofs.UnderWayLemmas.{leaves_none}
use Rattle.pw_run.proofs.laws.nothing_stays_under_way.Goals as goal

pub returns : goal.returns
returns c = leaves_none
