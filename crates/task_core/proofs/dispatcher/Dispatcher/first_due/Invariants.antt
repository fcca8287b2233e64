use Rattle.std.proofs.Common.{◌≡◌, ℕ, ◌<◌, false}
use Rattle.slab.specs.Slab.{get}
use Rattle.task_core.specs.Places.{due_in}
use Rattle.task_core.proofs.dispatcher.Dispatcher.first_due.Given as goal

abbrev pub invariant-keys : goal.invariant-keys
invariant-keys g l = (k : ℕ) → k < l.key → due_in (get l.self.places k) ≡ false
