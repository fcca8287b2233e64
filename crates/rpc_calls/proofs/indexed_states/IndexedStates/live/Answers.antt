use Rattle.std.proofs.Common.{◌∙◌, sym, subst}
use Rattle.rpc_journal.specs.table.Agrees.{Agrees, IsOpenAt}
use Rattle.rpc_calls.proofs.FactSteps.{live_known, live_open}
use Rattle.rpc_calls.proofs.indexed_states.IndexedStates.live.Goals as goal

pub returns-in-Some-clause-call : goal.returns-in-Some-clause-call
returns-in-Some-clause-call g c = λ ds agrees.
    sym c.in-Some.is ∙ c.live.ensures ∙ live_known ds c.self.inside.calls.states c.args.name (subst (λ t. Agrees ds t.states) (sym c.self.view_is) agrees)

pub returns-in-Some-clause-there : goal.returns-in-Some-clause-there
returns-in-Some-clause-there g c =
    subst (λ t. IsOpenAt t.states.calls.items c.in-Some.call) c.self.view_is (live_open c.self.inside.calls.states.calls.items _ c.in-Some.call (sym c.live.ensures ∙ c.in-Some.is))

pub returns-in-None-clause-call : goal.returns-in-None-clause-call
returns-in-None-clause-call g c = λ ds agrees.
    sym c.in-None.is ∙ c.live.ensures ∙ live_known ds c.self.inside.calls.states c.args.name (subst (λ t. Agrees ds t.states) (sym c.self.view_is) agrees)
