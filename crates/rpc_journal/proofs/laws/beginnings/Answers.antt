use Rattle.rpc_journal.proofs.Push.{beginning_is_lawful, beginning_is_legal}
use Rattle.rpc_journal.proofs.laws.beginnings.Goals as goal

pub returns-clause-lawful : goal.returns-clause-lawful
returns-clause-lawful c = beginning_is_lawful

pub returns-clause-legal : goal.returns-clause-legal
returns-clause-legal c = beginning_is_legal
