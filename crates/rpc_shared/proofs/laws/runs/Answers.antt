use Rattle.rpc_shared.proofs.Standing.{run_stands_until_finish}
use Rattle.rpc_shared.proofs.laws.runs.Goals as goal

pub returns : goal.returns
returns c = run_stands_until_finish
