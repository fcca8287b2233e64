use Rattle.rpc_journal.proofs.ChangeLemmas.{adds_by_seat}
use Rattle.rpc_journal.proofs.LegalLemmas.{keeps_legal}
use Rattle.rpc_journal.proofs.laws.changes.Goals as goal

pub returns-clause-by_seat : goal.returns-clause-by_seat
returns-clause-by_seat g c = adds_by_seat

pub returns-clause-legal : goal.returns-clause-legal
returns-clause-legal g c = keeps_legal
