use Rattle.rpc_calls.proofs.state_change.StateChange.apply.Goals as goal

pub returns-in-Start-clause-turns : goal.returns-in-Start-clause-turns
returns-in-Start-clause-turns c = rw c.in-Start.is (c.start.ensures.state c.args.at)

pub returns-in-Finish-clause-turns : goal.returns-in-Finish-clause-turns
returns-in-Finish-clause-turns c = rw c.in-Finish.is (c.finish.ensures.state c.args.at)

pub returns-in-Cancel-clause-turns : goal.returns-in-Cancel-clause-turns
returns-in-Cancel-clause-turns c = rw c.in-Cancel.is (c.cancel.ensures.state c.args.at)

pub returns-in-Complete-clause-turns : goal.returns-in-Complete-clause-turns
returns-in-Complete-clause-turns c = rw c.in-Complete.is (c.complete.ensures.state c.args.at)
