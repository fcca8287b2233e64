-- Counts of faults: what a failure does to the count of the device that failed.
use Rattle.std.specs.Prelude.{◌≡◌, ℕ, ◌+◌, ◌-◌, ◌^◌, ◌≤◌, min, Result, Err, OnErr, MatchResult}
use Rattle.link_io.specs.declared.store.StoreRefused.{StoreRefused}
use Rattle.link_io.specs.declared.store.StoreRefused.TheVariants.{Failed, Memory}

-- the next value of a counter that stops at the last number of 64 bits
abbrev pub counted : ℕ → ℕ
counted n = min (n + 1) (2 ^ 64 - 1)

-- two counts as one, up to the last number of 64 bits
abbrev pub summed : ℕ → ℕ → ℕ
summed a b = min (a + b) (2 ^ 64 - 1)

-- the count rose, or stands at its last value
abbrev pub Rose : ℕ → ℕ → Type 0
Rose before now = counted before ≤ now

-- a call never lowers the count, and answers an error only where the count rose
pub record HasCause {T E : Type 0} (before now : ℕ) (result : Result T E) : Type 0 where
  pub later : before ≤ now
  pub failed : OnErr result (Rose before now)

-- a call that fails adds one to the count, and a call that doesn't fail leaves it
abbrev pub Counts : {T E : Type 0} → ℕ → ℕ → Result T E → Type 0
Counts before now result = MatchResult result (λ _. now ≡ before) (λ _. now ≡ counted before)

-- a call of a store never lowers the count, and answers that it failed only where the count rose
pub record HasStoreCause {T : Type 0} (before now : ℕ) (result : Result T StoreRefused) : Type 0 where
  pub later : before ≤ now
  pub failed : result ≡ Err Failed → Rose before now

-- what a refusal of a store does to its count: want of memory is no fault
abbrev pub count_after : ℕ → StoreRefused → ℕ
count_after before Failed = counted before
count_after before Memory = before

-- a call of a store adds one to the count exactly where it failed
abbrev pub CountsFailure : {T : Type 0} → ℕ → ℕ → Result T StoreRefused → Type 0
CountsFailure before now result = MatchResult result (λ _. now ≡ before) (λ e. now ≡ count_after before e)
