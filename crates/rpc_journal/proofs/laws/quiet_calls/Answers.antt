use Rattle.rpc_journal.proofs.RunLemmas.{quiet_for_good}
use Rattle.rpc_journal.proofs.laws.quiet_calls.Goals as goal

pub returns : goal.returns
returns c = quiet_for_good
