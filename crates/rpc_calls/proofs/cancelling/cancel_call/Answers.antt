use Rattle.std.proofs.Common.{subst, sym}
use Rattle.rpc_journal.specs.table.Touch.{cancelling}
use Rattle.rpc_calls.specs.Places.{ChangesAt}
use Rattle.rpc_journal.specs.table.Turns.{Turns}
use Rattle.rpc_calls.proofs.cancelling.cancel_call.Goals as goal

pub returns-clause-change : goal.returns-clause-change
returns-clause-change g c = λ at.
    subst (λ ss. ChangesAt c.args.call (λ r x. Turns at (cancelling r.status) r x) c.args.states.now.states.calls.items ss.calls.items) (sym c.set_unflushed.ensures.states) (c.cancel.ensures.change at)
