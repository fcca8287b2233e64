use Rattle.rpc_journal.proofs.ChangeLemmas.{begun_runs}
use Rattle.rpc_journal.proofs.RunLemmas.{run_stands}
use Rattle.rpc_journal.proofs.laws.runs.Goals as goal

pub returns-clause-begun : goal.returns-clause-begun
returns-clause-begun c = begun_runs

pub returns-clause-stand : goal.returns-clause-stand
returns-clause-stand c = run_stands
