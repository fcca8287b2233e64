use Rattle.std.proofs.Common.{◌≡◌, ℕ, ◌<◌, get_or}
use Rattle.std.specs.Slots.{slots_items}
use Rattle.task_core.proofs.bells.bells.Bells.close.Given as goal

-- the words so far
abbrev pub invariant-loop-key : goal.invariant-loop-key
invariant-loop-key l = (k : ℕ) → k < l.key → get_or l.words k 0 ≡ get_or (slots_items l.closed.words) k 0
