use Rattle.std.proofs.Common.{IsTrue}
use Rattle.entry_lists.proofs.Makers.{all_by_maker, makers_below}
use Rattle.entry_lists.proofs.laws.entries_by_maker.Goals as goal

pub returns-clause-each : goal.returns-clause-each
returns-clause-each g c = λ maker test. all_by_maker maker (λ e. IsTrue (test e))

pub returns-clause-below : goal.returns-clause-below
returns-clause-below g c = λ maker. makers_below maker
