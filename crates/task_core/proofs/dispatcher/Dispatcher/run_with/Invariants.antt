use Rattle.std.proofs.Common.{◌≡◌, List}
use Rattle.task_core.specs.Log.{Step, looks_of}
use Rattle.task_core.specs.Hearing.{IsSameEar, HeardTurns}
use Rattle.task_core.specs.Tasks.{StandsFor, Keeps}
use Rattle.task_core.proofs.dispatcher.Dispatcher.run_with.Given as goal

-- so many turns are made
abbrev pub invariant-turns : goal.invariant-turns
invariant-turns g l = record {
  ran : (log : List (Step g.row.T.Denot)) → StandsFor l.initial.self log → looks_of log ≡ l.initial.ear.looks → (mid : List (Step g.row.T.Denot)) × HeardTurns g.T.Task.polls l._turn log mid × StandsFor l.self mid × (looks_of mid ≡ l.ear.looks);
  ear : IsSameEar l.initial.ear l.ear;
  keeps : Keeps l.initial.self l.self;
}
