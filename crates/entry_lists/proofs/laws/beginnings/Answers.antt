use Rattle.entry_lists.proofs.Prefixes.{prefix_shorter, prefix_get}
use Rattle.entry_lists.proofs.laws.beginnings.Goals as goal

pub returns-clause-shorter : goal.returns-clause-shorter
returns-clause-shorter g c = prefix_shorter

pub returns-clause-places : goal.returns-clause-places
returns-clause-places g c = prefix_get
