use Rattle.run_laws.proofs.statuses.ClientEndLemmas.{not_okay_is_other, okay_is_okay}
use Rattle.run_laws.proofs.statuses.laws.clients_tell_how_they_ended.Goals as goal

pub returns-clause-okay : goal.returns-clause-okay
returns-clause-okay c = okay_is_okay

pub returns-clause-other : goal.returns-clause-other
returns-clause-other c = not_okay_is_other
