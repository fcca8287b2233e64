use Rattle.rpc_schedule.proofs.ScheduleLemmas as lemmas
use Rattle.rpc_schedule.proofs.laws.one_history.Goals as goal

pub returns : goal.returns
returns c = lemmas.one_history
