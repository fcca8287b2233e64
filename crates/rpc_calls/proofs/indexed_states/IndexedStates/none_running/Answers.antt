use Rattle.std.proofs.Common.{refl, ap, sym, subst}
use Rattle.rpc_journal.specs.table.Agrees.{Agrees}
use Rattle.rpc_calls.specs.declared.owed.Owed.{Owed}
use Rattle.rpc_calls.proofs.ChoiceSteps.{none_run}
use Rattle.rpc_calls.proofs.indexed_states.IndexedStates.none_running.Goals as goal

pub returns : goal.returns
returns g c = λ ds agrees.
    none_run ds c.self.inside.calls.states c.self.inside.index.owed.running _ (subst (Agrees ds) (ap (λ t. t.states) (sym c.self.view_is)) agrees)
    (ap (λ (o : Owed). o.running) c.self.invariant.indexed.counts) refl
