use Rattle.rpc_journal.proofs.table.client_arrivals.client_move.Goals as goal

pub returns-in-None-clause-call : goal.returns-in-None-clause-call
returns-in-None-clause-call c = λ states there. c.no_call_move.ensures.call states

pub returns-in-None-live-clause-call : goal.returns-in-None-live-clause-call
returns-in-None-live-clause-call c = λ states there. c.no_call_move-in-None-live.ensures.call states
