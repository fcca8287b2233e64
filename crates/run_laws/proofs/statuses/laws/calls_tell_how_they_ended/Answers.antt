use Rattle.run_laws.proofs.statuses.ClientEndLemmas.{called_means_okay, other_means_other}
use Rattle.run_laws.proofs.statuses.laws.calls_tell_how_they_ended.Goals as goal

pub returns-clause-okay : goal.returns-clause-okay
returns-clause-okay c = called_means_okay

pub returns-clause-other : goal.returns-clause-other
returns-clause-other c = other_means_other
