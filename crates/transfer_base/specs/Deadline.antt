-- When a timeout comes.
use Rattle.std.specs.Prelude.{ℕ, ◌+◌, ◌-◌, ◌^◌, min}
use Rattle.transfer_base.specs.declared.limits.TheConstants.{TIMEOUT}

-- so long after the last activity; a later moment than the last of 64 bits can't be told
abbrev pub deadline_after : ℕ → ℕ
deadline_after active = min (active + TIMEOUT) (2 ^ 64 - 1)
