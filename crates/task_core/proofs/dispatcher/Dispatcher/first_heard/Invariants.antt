use Rattle.std.proofs.Common.{◌≡◌, ℕ, ◌<◌, false}
use Rattle.slab.specs.Slab.{get}
use Rattle.task_core.specs.Places.{due_in}
use Rattle.task_core.specs.Hearing.{IsSameEar, Scanned}
use Rattle.task_core.specs.Tasks.{Keeps}
use Rattle.task_core.proofs.dispatcher.Dispatcher.first_heard.Given as goal

-- the words below the key are loaded, and none of their tasks is due
abbrev pub invariant-keys : goal.invariant-keys
invariant-keys g l = record {
  scanned : Scanned l.key l.initial.self l.self l.initial.ear.looks l.ear.looks;
  calm : (k : ℕ) → k < l.key → due_in (get l.self.places k) ≡ false;
  ear : IsSameEar l.initial.ear l.ear;
  keeps : Keeps l.initial.self l.self;
}
