use Rattle.std.proofs.Common.{Err, ap}
use Rattle.rpc_schedule.proofs.stream.replay.Goals as goal

pub returns-in-Err-Journal-clause-replayed : goal.returns-in-Err-Journal-clause-replayed
returns-in-Err-Journal-clause-replayed g c = c.in-Err-Journal.ensures.full (ap Err c.in-Err-Journal.field-0-is)

pub returns-in-Err-Store-clause-replayed : goal.returns-in-Err-Store-clause-replayed
returns-in-Err-Store-clause-replayed g c = c.in-Err-Store.ensures.fails (ap Err c.in-Err-Store.field-0-is)
