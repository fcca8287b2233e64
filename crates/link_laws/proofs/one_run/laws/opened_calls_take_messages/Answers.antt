use Rattle.link_laws.proofs.one_run.Speaking.{done_is_taken, messages_are_taken, opened_speaks, said_speaks}
use Rattle.link_laws.proofs.one_run.laws.opened_calls_take_messages.Goals as goal

pub returns-clause-opened : goal.returns-clause-opened
returns-clause-opened c = opened_speaks

pub returns-clause-said : goal.returns-clause-said
returns-clause-said c = said_speaks

pub returns-clause-messages : goal.returns-clause-messages
returns-clause-messages c = messages_are_taken

pub returns-clause-done : goal.returns-clause-done
returns-clause-done c = done_is_taken
