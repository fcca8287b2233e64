use Rattle.rpc_schedule.proofs.ScheduleLemmas.{full_begins, store_begins}
use Rattle.rpc_schedule.proofs.laws.stops_begin.Goals as goal

pub returns : goal.returns
returns c = record { full = full_begins; store = store_begins }
