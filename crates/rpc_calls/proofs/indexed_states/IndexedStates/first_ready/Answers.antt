use Rattle.std.proofs.Common.{ap, sym, subst, ◌∙◌}
use Rattle.std.proofs.lemmas.List.{get_or_default}
use Rattle.rpc_journal.specs.table.Agrees.{Agrees}
use Rattle.rpc_calls.specs.declared.waiting_calls.WaitingCall.{WaitingCall}
use Rattle.rpc_calls.proofs.ChoiceSteps.{first_is, none_is}
use Rattle.rpc_calls.proofs.indexed_states.IndexedStates.first_ready.Goals as goal

pub returns-in-Some-clause-first : goal.returns-in-Some-clause-first
returns-in-Some-clause-first g c = λ ds agrees.
    first_is ds c.self.inside.calls.states c.self.inside.index c.in-Some.place _ (subst (Agrees ds) (ap (λ t. t.states) (sym c.self.view_is)) agrees) c.self.invariant.indexed c.in-Some.ensures
    (λ d. ap (λ (w : WaitingCall). w.call) (c.index.ensures ∙ get_or_default c.self.inside.index.waiting.calls.items c.in-Some.place c.index.result.now d c.in-Some.ensures.0))

pub returns-in-None-clause-none : goal.returns-in-None-clause-none
returns-in-None-clause-none g c = λ ds agrees.
    none_is ds c.self.inside.calls.states c.self.inside.index (subst (Agrees ds) (ap (λ t. t.states) (sym c.self.view_is)) agrees) c.self.invariant.indexed c.in-None.ensures
