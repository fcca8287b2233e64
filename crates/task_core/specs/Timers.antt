-- What contracts see of the timers.
use Rattle.std.specs.Prelude.{◌≡◌, ◌≢◌, ℕ, ◌<◌, Bool, true}
use Rattle.std.specs.Ordering.{nat_cmp, ordering_then}
use Rattle.std.specs.declared.cmp.Ordering.{Ordering}
use Rattle.std.specs.BTreeSet.{contains}
use Rattle.task_core.specs.declared.timers.Timers.{Timers}

-- by the moment, and by the key where the moments are the same
abbrev pub by_moment : ℕ × ℕ → ℕ × ℕ → Ordering
by_moment x y = ordering_then (nat_cmp x.0 y.0) (nat_cmp x.1 y.1)

-- the task with this key has a timer for this moment
abbrev pub has_timer : Timers → ℕ → ℕ → Bool
has_timer timers at key = contains by_moment timers.set (at, key)

-- timers of other tasks stay
abbrev pub KeepsOthers : ℕ → Timers → Timers → Type 0
KeepsOthers key old new = (a k : ℕ) → k ≢ key → has_timer old a k ≡ true → has_timer new a k ≡ true

-- timers of later moments stay
abbrev pub KeepsLater : ℕ → Timers → Timers → Type 0
KeepsLater now old new = (a k : ℕ) → now < a → has_timer old a k ≡ true → has_timer new a k ≡ true

-- no timer of this moment or an earlier one is there
abbrev pub AreLater : ℕ → Timers → Type 0
AreLater now timers = (a k : ℕ) → has_timer timers a k ≡ true → now < a
