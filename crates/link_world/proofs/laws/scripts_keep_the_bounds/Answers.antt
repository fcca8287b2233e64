use Rattle.link_world.proofs.BoundsLemmas.{bounded}
use Rattle.link_world.proofs.laws.scripts_keep_the_bounds.Goals as goal

pub returns : goal.returns
returns c = bounded
