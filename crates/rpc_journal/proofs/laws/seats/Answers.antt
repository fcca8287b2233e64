use Rattle.rpc_journal.proofs.ItemLemmas.{arrivals_of_seat, flushes_of_seat, flushes_count}
use Rattle.rpc_journal.proofs.StayLemmas.{end_in_of_seat, moments_of_seat}
use Rattle.rpc_journal.proofs.laws.seats.Goals as goal

pub returns-clause-arrivals : goal.returns-clause-arrivals
returns-clause-arrivals c = arrivals_of_seat

pub returns-clause-flushes : goal.returns-clause-flushes
returns-clause-flushes c = flushes_of_seat

pub returns-clause-count : goal.returns-clause-count
returns-clause-count c = flushes_count

pub returns-clause-moments : goal.returns-clause-moments
returns-clause-moments c = moments_of_seat

pub returns-clause-end_in : goal.returns-clause-end_in
returns-clause-end_in c = end_in_of_seat
