-- The generator behind streams and resources that are made from a seed.
use Rattle.std.specs.Prelude.{ℕ, zero, suc, ◌+◌, ◌*◌, ◌%◌, ◌^◌}
use Rattle.link_script.specs.declared.generator.TheConstants.{MULTIPLIER, INCREMENT}

-- the number that follows x
abbrev pub number_behind : ℕ → ℕ
number_behind x = (x * MULTIPLIER + INCREMENT) % 2 ^ 64

-- the number after so many steps from a seed
unfoldable pub number_after : ℕ → ℕ → ℕ
number_after zero seed = seed
number_after (suc steps) seed = number_behind (number_after steps seed)
