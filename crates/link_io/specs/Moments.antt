-- The moments of a clock that steps.
use Rattle.std.specs.Prelude.{ℕ, ◌≤◌, List, [], ◌∷◌}

-- none is before the one in front of it, and the first is not before this one
abbrev pub DoNotFall : ℕ → List ℕ → Type 0
DoNotFall last [] = Unit {0}
DoNotFall last (m ∷ ms) = (last ≤ m) × DoNotFall m ms

-- a clock that steps: the moment last given, and those still to come, of which the last one is repeated
pub record Moments : Type 0 where
  pub last : ℕ
  pub ahead : List ℕ

-- the moment that comes next
abbrev pub next_of : List ℕ → ℕ
next_of [] = 0
next_of (m ∷ ms) = m

-- what is ahead once the next moment was given
abbrev pub after_next : List ℕ → List ℕ
after_next [] = []
after_next (m ∷ []) = m ∷ []
after_next (m ∷ n ∷ ms) = n ∷ ms

-- a clock before its first moment
abbrev pub fresh_clock : List ℕ → Moments
fresh_clock moments = record { last = next_of moments; ahead = moments }

-- the clock gave its next moment
abbrev pub stepped : Moments → Moments
stepped clock = record { last = next_of clock.ahead; ahead = after_next clock.ahead }
