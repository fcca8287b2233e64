use Rattle.std.proofs.Common.{◌≡◌, List, ◌++◌, length, map}
use Rattle.task_core.specs.Log.{Step}
use Rattle.task_core.specs.Tasks.{Keeps, StandsFor}
use Rattle.link_world.specs.declared.client.transfer_task.TransferTask.{TransferTask}
use Rattle.link_world.specs.client.OnePoll.{with_taken}
use Rattle.link_world.proofs.client.polling.take_outs.Given as goal

abbrev pub invariant-outs : goal.invariant-outs
invariant-outs l = record {
  said : map (λ said. said.1) l.fn.tasks.outs ≡ l.outs.items ++ map (λ said. said.1) l.tasks.outs;
  stands : (log : List (Step TransferTask)) → StandsFor l.fn.tasks log → StandsFor l.tasks (with_taken (length l.outs.items) log);
  keeps : Keeps l.fn.tasks l.tasks;
}

abbrev pub decreases-outs : goal.decreases-outs
decreases-outs l = length l.tasks.outs
