use Rattle.rpc_calls.proofs.FactSteps.{done_waits}
use Rattle.rpc_calls.proofs.indexed_states.choosing.starts_since.Goals as goal

pub returns-in-None : goal.returns-in-None
returns-in-None g c = done_waits c.args.calls.now.states c.args.waiting.now.since _ c.in-None.ensures.left
