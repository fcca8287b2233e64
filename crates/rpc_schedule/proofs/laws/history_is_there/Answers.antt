use Rattle.rpc_schedule.proofs.ThereLemmas as lemmas
use Rattle.rpc_schedule.proofs.laws.history_is_there.Goals as goal

pub returns : goal.returns
returns c = lemmas.history_is_there
