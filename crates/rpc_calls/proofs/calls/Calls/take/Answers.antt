use Rattle.std.proofs.Common.{subst}
use Rattle.std.proofs.Math.Facts.{Fits-of_lt}
use Rattle.rpc_journal.specs.CallTable.{past}
use Rattle.rpc_calls.specs.Arrivals.{IsLiveMove}
use Rattle.rpc_calls.proofs.calls.Calls.take.Goals as goal

pub overflow_cast-call : goal.overflow_cast-call
overflow_cast-call g c = Fits-of_lt (subst (λ m. IsLiveMove (past c.args.self.now) m) c.in-Close.is c.requires.live).small

pub overflow_cast-call-in-OpenAnew : goal.overflow_cast-call-in-OpenAnew
overflow_cast-call-in-OpenAnew g c = Fits-of_lt (subst (λ m. IsLiveMove (past c.args.self.now) m) c.in-OpenAnew.is c.requires.live).small

pub overflow_cast-call-in-Queue : goal.overflow_cast-call-in-Queue
overflow_cast-call-in-Queue g c = Fits-of_lt (subst (λ m. IsLiveMove (past c.args.self.now) m) c.in-Queue.is c.requires.live).small

pub overflow_cast-call-in-Complete : goal.overflow_cast-call-in-Complete
overflow_cast-call-in-Complete g c = Fits-of_lt (subst (λ m. IsLiveMove (past c.args.self.now) m) c.in-Complete.is c.requires.live).small

pub overflow_cast-call-in-End : goal.overflow_cast-call-in-End
overflow_cast-call-in-End g c = Fits-of_lt (subst (λ m. IsLiveMove (past c.args.self.now) m) c.in-End.is c.requires.live).small

pub overflow_cast-call-in-Refuse : goal.overflow_cast-call-in-Refuse
overflow_cast-call-in-Refuse g c = Fits-of_lt (subst (λ m. IsLiveMove (past c.args.self.now) m) c.in-Refuse.is c.requires.live).small

pub overflow_cast-call-in-Answer : goal.overflow_cast-call-in-Answer
overflow_cast-call-in-Answer g c = Fits-of_lt (subst (λ m. IsLiveMove (past c.args.self.now) m) c.in-Answer.is c.requires.live).small
