use Rattle.rpc_journal.proofs.table.server_arrivals.server_move.Goals as goal

pub returns-then-not-is_in-clause-call : goal.returns-then-not-is_in-clause-call
returns-then-not-is_in-clause-call c = λ states there. c.unknown_move.ensures.call states

pub returns-in-None-clause-call : goal.returns-in-None-clause-call
returns-in-None-clause-call c = λ states there. c.unknown_move-in-None.ensures.call states
