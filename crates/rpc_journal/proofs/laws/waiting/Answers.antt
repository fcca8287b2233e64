use Rattle.std.proofs.Common.{reverse}
use Rattle.rpc_journal.proofs.EndedLemmas.{cancelled_waits_none}
use Rattle.rpc_journal.proofs.WaitLemmas.{few_wait}
use Rattle.rpc_journal.proofs.laws.waiting.Goals as goal

pub returns-clause-few : goal.returns-clause-few
returns-clause-few c = λ set h call lawful. few_wait set (reverse h) call lawful.allowed

pub returns-clause-cancelled : goal.returns-clause-cancelled
returns-clause-cancelled c = λ set h call lawful cancelled. cancelled_waits_none set (reverse h) call lawful.allowed cancelled
