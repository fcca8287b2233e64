use Rattle.std.proofs.Common.{◌≡◌, ℕ, ◌<◌, false}
use Rattle.slab.specs.Slab.{get}
use Rattle.task_core.specs.Places.{lives_in}
use Rattle.task_core.proofs.dispatcher.Dispatcher.any_lives.Given as goal

abbrev pub invariant-keys : goal.invariant-keys
invariant-keys g l = (k : ℕ) → k < l.key → lives_in (get l.self.places k) ≡ false
