use Rattle.std.proofs.Common.{Some, None, ap, sym, ◌∙◌}
use Rattle.rpc_journal.specs.table.Touch.{is_startable}
use Rattle.rpc_journal.proofs.table.KnownStates.{ready_known}
use Rattle.rpc_journal.proofs.table.call_states.CallStates.is_ready.Goals as goal

pub returns-in-Some : goal.returns-in-Some
returns-in-Some c = λ ds agrees.
    c.is_ready.ensures
    ∙ (ap (is_startable c.in-Some.state.now c.args.self.now.unflushed) c.is_some.ensures
    ∙ sym (ready_known ds c.args.self.now c.args.call (Some c.in-Some.state.now) agrees (sym c.in-Some.ensures)))

pub returns-in-None : goal.returns-in-None
returns-in-None c = λ ds agrees. sym (ready_known ds c.args.self.now c.args.call None agrees (sym c.in-None.ensures))
