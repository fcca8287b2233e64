use Rattle.std.proofs.Common.{List}
use Rattle.task_core.specs.Log.{Step}
use Rattle.task_core.specs.Runs.{Turns}
use Rattle.task_core.specs.Tasks.{StandsFor, Keeps}
use Rattle.task_core.proofs.dispatcher.Dispatcher.run_until_stalled.Given as goal

-- so many turns are made
abbrev pub invariant-turns : goal.invariant-turns
invariant-turns g l = record {
  ran : (log : List (Step g.row.T.Denot)) → StandsFor l.initial.self log → (new : List (Step g.row.T.Denot)) × Turns g.T.Task.polls l._turn log new × StandsFor l.self new;
  keeps : Keeps l.initial.self l.self;
}
