use Rattle.rpc_journal.proofs.PlaceLemmas.{get_some}
use Rattle.rpc_calls.proofs.InUseSteps.{done_ended}
use Rattle.rpc_calls.proofs.indexed_states.IndexedStates.completed_at.Goals as goal

pub returns-in-Some : goal.returns-in-Some
returns-in-Some g c = λ ds agrees. (agrees.calls.each c.args.call c.in-Some.state.now c.in-Some.ensures.state).completed

pub returns-in-None : goal.returns-in-None
returns-in-None g c = λ ds agrees.
    let row = get_some c.args.self.now.states.calls.items c.args.call c.requires.within in
    done_ended row.0 (c.in-None.ensures.left row.0 row.1) (c.requires.unended row.0 row.1)
