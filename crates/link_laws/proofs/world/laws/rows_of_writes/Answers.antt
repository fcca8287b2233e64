use Rattle.link_laws.proofs.world.RowProofs.{completion_told_again-runs, written_and_not_listed-runs, completions_lost-runs, confirmation_lost-runs, nothing_to_write-runs, read_and_written-runs, whole_write-runs, write_resumed-runs}
use Rattle.link_laws.proofs.world.laws.rows_of_writes.Goals as goal

pub returns-clause-whole : goal.returns-clause-whole
returns-clause-whole c = whole_write-runs

pub returns-clause-resumed : goal.returns-clause-resumed
returns-clause-resumed c = write_resumed-runs

pub returns-clause-confirmation_lost : goal.returns-clause-confirmation_lost
returns-clause-confirmation_lost c = confirmation_lost-runs

pub returns-clause-completions_lost : goal.returns-clause-completions_lost
returns-clause-completions_lost c = completions_lost-runs

pub returns-clause-not_found : goal.returns-clause-not_found
returns-clause-not_found c = nothing_to_write-runs

pub returns-clause-read_before : goal.returns-clause-read_before
returns-clause-read_before c = read_and_written-runs

pub returns-clause-not_listed : goal.returns-clause-not_listed
returns-clause-not_listed c = written_and_not_listed-runs

pub returns-clause-told_again : goal.returns-clause-told_again
returns-clause-told_again c = completion_told_again-runs
