use Rattle.link_laws.proofs.dropped_scripts.Walking.{next_ends_in_time}
use Rattle.link_laws.proofs.dropped_scripts.laws.next_ends_in_time.Goals as goal

pub returns : goal.returns
returns c = next_ends_in_time
