-- Counts of what a stream has, which stay at the largest number that they hold.
use Rattle.std.specs.Prelude.{ℕ, ◌+◌}
use Rattle.std.specs.Io.Iter.{u64_saturate}

-- one more, as far as a count goes
abbrev pub one_more : ℕ → ℕ
one_more n = u64_saturate (n + 1)
