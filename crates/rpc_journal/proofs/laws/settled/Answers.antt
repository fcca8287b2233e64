use Rattle.rpc_journal.proofs.StayLemmas.{settled_ends, settled_next}
use Rattle.rpc_journal.proofs.laws.settled.Goals as goal

pub returns-clause-next : goal.returns-clause-next
returns-clause-next c = settled_next

pub returns-clause-ends : goal.returns-clause-ends
returns-clause-ends c = settled_ends
