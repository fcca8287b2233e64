use Rattle.link_laws.proofs.world.RowProofs.{chat_called-runs, echo_called-runs, request_repeated-runs, response_kept_back-runs, response_lost-runs, sum_called-runs}
use Rattle.link_laws.proofs.world.laws.rows_of_calls.Goals as goal

pub returns-clause-echo : goal.returns-clause-echo
returns-clause-echo c = echo_called-runs

pub returns-clause-sum : goal.returns-clause-sum
returns-clause-sum c = sum_called-runs

pub returns-clause-chat : goal.returns-clause-chat
returns-clause-chat c = chat_called-runs

pub returns-clause-repeated : goal.returns-clause-repeated
returns-clause-repeated c = request_repeated-runs

pub returns-clause-cancelled : goal.returns-clause-cancelled
returns-clause-cancelled c = response_lost-runs

pub returns-clause-kept_back : goal.returns-clause-kept_back
returns-clause-kept_back c = response_kept_back-runs
