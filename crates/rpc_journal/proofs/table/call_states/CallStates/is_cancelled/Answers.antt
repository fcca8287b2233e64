use Rattle.std.proofs.Common.{Some, None, sym}
use Rattle.rpc_journal.proofs.table.KnownStates.{cancel_known}
use Rattle.rpc_journal.proofs.table.call_states.CallStates.is_cancelled.Goals as goal

pub returns-in-Some : goal.returns-in-Some
returns-in-Some c = λ ds agrees. sym (cancel_known ds _ c.args.call (Some c.in-Some.state.now) agrees.calls (sym c.in-Some.ensures))

pub returns-in-None : goal.returns-in-None
returns-in-None c = λ ds agrees. sym (cancel_known ds _ c.args.call None agrees.calls (sym c.in-None.ensures))
