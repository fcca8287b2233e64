use Rattle.std.proofs.Common.{refl}
use Rattle.rpc_journal.specs.table.Touch.{closing}
use Rattle.rpc_calls.proofs.InUseSteps.{live_used, put_used}
use Rattle.rpc_calls.proofs.indexed_states.IndexedStates.close.Goals as goal

pub change-requires-clause-used : goal.change-requires-clause-used
change-requires-clause-used g c = λ r is. live_used r (c.requires.live r is)

pub change-requires-clause-can : goal.change-requires-clause-can
change-requires-clause-can g c = λ r is. (c.requires.live r is, c.requires.place r is)

pub change-requires-clause-stays : goal.change-requires-clause-stays
change-requires-clause-stays g c = λ r x is turns. put_used c.args.at (closing c.args.status) _ _ r x refl refl turns
