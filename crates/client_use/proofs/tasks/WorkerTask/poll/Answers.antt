use Rattle.std.proofs.Common.{rules, option_to_list}
use Rattle.client_use.proofs.tasks.WorkerTask.poll.Goals as goal

pub returns-in_default-clause-uses : goal.returns-in_default-clause-uses
returns-in_default-clause-uses c =
    record { key = search rules; moment = search rules; earlier = search rules; mail = (option_to_list c.mail.result, search rules) }
