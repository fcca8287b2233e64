use Rattle.rpc_journal.proofs.ChangeLemmas.{becomes_quiet}
use Rattle.rpc_journal.proofs.laws.quieting.Goals as goal

pub returns : goal.returns
returns g c = becomes_quiet
