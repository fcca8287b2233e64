use Rattle.link_laws.proofs.dropped_scripts.Walking.{few_losses_spare_each}
use Rattle.link_laws.proofs.dropped_scripts.laws.few_losses_spare_each.Goals as goal

pub returns : goal.returns
returns c = few_losses_spare_each
