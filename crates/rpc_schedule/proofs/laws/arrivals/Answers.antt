use Rattle.rpc_schedule.proofs.OneThreadLemmas.{full_arrivals, store_arrivals, whole_arrivals}
use Rattle.rpc_schedule.proofs.laws.arrivals.Goals as goal

pub returns : goal.returns
returns c = record { whole = whole_arrivals; full = full_arrivals; store = store_arrivals }
