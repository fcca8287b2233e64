use Rattle.std.proofs.Common.{◌∙◌, refl}
use Rattle.rpc_journal.specs.table.Touch.{completing}
use Rattle.rpc_calls.proofs.EndSteps.{turns_anywhere}
use Rattle.rpc_calls.proofs.InUseSteps.{live_used}
use Rattle.rpc_calls.proofs.indexed_states.IndexedStates.complete.Goals as goal

pub change-requires-clause-used : goal.change-requires-clause-used
change-requires-clause-used g c = λ r is. live_used r (c.requires.live r is)

pub change-requires-clause-can : goal.change-requires-clause-can
change-requires-clause-can g c = λ r is. tt

pub change-requires-clause-stays : goal.change-requires-clause-stays
change-requires-clause-stays g c = λ r x is turns. live_used x (turns.is.status ∙ c.requires.live r is)

pub returns-clause-change : goal.returns-clause-change
returns-clause-change g c = λ at. turns_anywhere c.args.call at (λ r. completing) _ _ (λ r. refl) c.change.ensures.changes.change
