use Rattle.std.proofs.Common.{◌∙◌, Some, None, slice_get, refl, sym}
use Rattle.rpc_journal.specs.declared.table.call_state.CallState.{CallState}
use Rattle.rpc_journal.proofs.table.KnownStates.{run_known}
use Rattle.rpc_calls.proofs.FactSteps.{none_told}
use Rattle.rpc_calls.proofs.indexed_states.IndexedStates.runner.Goals as goal

pub returns-in-Some : goal.returns-in-Some
returns-in-Some g c = λ ds agrees. sym (run_known ds _ c.args.call (Some c.in-Some.state.now) agrees.calls c.in-Some.ensures.state)

pub returns-in-None : goal.returns-in-None
returns-in-None g c = λ ds agrees.
    sym (run_known ds _ c.args.call _ agrees.calls refl
    ∙ none_told None (λ (r : CallState). r.run) (slice_get c.args.self.now.states.calls.items c.args.call) (λ r is. (c.in-None.ensures.left r is).idle))
