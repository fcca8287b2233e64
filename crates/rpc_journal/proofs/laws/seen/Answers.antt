use Rattle.rpc_journal.proofs.ChangeLemmas.{input_stays_open}
use Rattle.rpc_journal.proofs.ItemLemmas.{call_stays}
use Rattle.rpc_journal.proofs.StayLemmas.{full_known, halt_stays}
use Rattle.rpc_journal.proofs.laws.seen.Goals as goal

pub returns-clause-call : goal.returns-clause-call
returns-clause-call c = call_stays

pub returns-clause-input : goal.returns-clause-input
returns-clause-input c = input_stays_open

pub returns-clause-halt : goal.returns-clause-halt
returns-clause-halt c = halt_stays

pub returns-clause-full : goal.returns-clause-full
returns-clause-full c = full_known
