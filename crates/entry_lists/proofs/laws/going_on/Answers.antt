use Rattle.entry_lists.proofs.Makers.{goes_on_other}
use Rattle.entry_lists.proofs.laws.going_on.Goals as goal

pub returns-clause-others : goal.returns-clause-others
returns-clause-others g c = λ maker. goes_on_other maker
