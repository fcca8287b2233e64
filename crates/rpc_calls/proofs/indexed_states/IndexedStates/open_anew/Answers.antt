use Rattle.rpc_ids.specs.declared.status.Status.TheVariants.{Cancelled}
use Rattle.rpc_calls.proofs.OpenedSteps.{opens_anew}
use Rattle.rpc_calls.proofs.indexed_states.IndexedStates.open_anew.Goals as goal

pub returns-clause-calls : goal.returns-clause-calls
returns-clause-calls g c =
    opens_anew c.args.old c.args.at Cancelled c.args.state _ _ _ c.in_default.ensures.calls c.requires.there c.close.ensures.change
