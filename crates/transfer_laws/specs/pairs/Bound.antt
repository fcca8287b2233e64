-- How many words a transfer says at most.
use Rattle.std.specs.Prelude.{ℕ, ◌+◌, ◌-◌, ◌*◌, ◌/◌, min, max}

-- the pieces of a resource of this size from an offset on, of so many bytes each; where there is nothing to send, one that is
-- empty
abbrev pub need : ℕ → ℕ → ℕ → ℕ
need size offset chunk = max 1 ((size - offset + (chunk - 1)) / chunk)

-- the bound for so many pieces
abbrev pub bound_for : ℕ → ℕ
bound_for pieces = min (2 * pieces + 6) (pieces + pieces / 32 + 11)

abbrev pub bound : ℕ → ℕ → ℕ → ℕ
bound size offset chunk = bound_for (need size offset chunk)
