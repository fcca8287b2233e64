use Rattle.std.proofs.Common.{List, take}
use Rattle.task_core.specs.Log.{Step}
use Rattle.task_core.specs.Tasks.{Keeps, StandsFor}
use Rattle.link_world.specs.declared.client.transfer_task.TransferTask.{TransferTask}
use Rattle.link_world.specs.client.OnePoll.{with_posts}
use Rattle.link_world.specs.client.Speaking.{mail_among}
use Rattle.link_world.proofs.client.polling.post_all.Given as goal

abbrev pub invariant-events : goal.invariant-events
invariant-events l = record {
  posts : (log : List (Step TransferTask)) → StandsFor l.fn.tasks log → StandsFor l.tasks (with_posts l.key (mail_among l.call (take l.of-index l.events)) log);
  keeps : Keeps l.fn.tasks l.tasks;
}
