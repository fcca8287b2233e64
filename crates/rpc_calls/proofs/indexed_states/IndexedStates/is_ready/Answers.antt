use Rattle.std.proofs.Common.{◌∙◌, Some, false, slice_get, is_some, refl, ap, sym}
use Rattle.rpc_journal.specs.declared.table.call_state.CallState.{CallState}
use Rattle.rpc_journal.specs.table.Touch.{is_startable}
use Rattle.rpc_journal.proofs.table.KnownStates.{ready_known}
use Rattle.rpc_calls.proofs.FactSteps.{done_unready, none_told}
use Rattle.rpc_calls.proofs.indexed_states.IndexedStates.is_ready.Goals as goal

pub returns-in-Some : goal.returns-in-Some
returns-in-Some g c = λ ds agrees.
    c.is_ready.ensures
    ∙ (ap (λ n. is_startable c.in-Some.state.now n c.is_some.result) c.unflushed.ensures
    ∙ ap (is_startable c.in-Some.state.now c.args.self.now.states.unflushed) (c.is_some.ensures ∙ ap is_some c.halted.ensures)
    ∙ sym (ready_known ds c.args.self.now.states c.args.call (Some c.in-Some.state.now) agrees c.in-Some.ensures.state))

pub returns-in-None : goal.returns-in-None
returns-in-None g c = λ ds agrees.
    sym (ready_known ds c.args.self.now.states c.args.call _ agrees refl
    ∙ none_told false (λ (r : CallState). is_startable r c.args.self.now.states.unflushed (is_some c.args.self.now.states.halted)) (slice_get c.args.self.now.states.calls.items c.args.call)
    (λ r is. done_unready r c.args.self.now.states.unflushed (is_some c.args.self.now.states.halted) (c.in-None.ensures.left r is)))
