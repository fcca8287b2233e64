use Rattle.rpc_schedule.proofs.OneThreadLemmas.{full_all, store_all, whole_all}
use Rattle.rpc_schedule.proofs.laws.entries.Goals as goal

pub returns : goal.returns
returns c = record { whole = whole_all; full = full_all; store = store_all }
