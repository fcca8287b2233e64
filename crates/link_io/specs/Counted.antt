-- A device of the system, beside the count of its faults.
use Rattle.std.specs.Prelude.{ℕ, Bool, false}

pub record Counted (D : Type 0) : Type 0 where
  pub device : D
  pub faults : ℕ

abbrev pub uncounted : {D : Type 0} → D → Counted D
uncounted device = record { device = device; faults = 0 }

-- a device that is written to, and whether it was told that nothing more comes
pub record CountedSink (D : Type 0) : Type 0 where
  pub device : D
  pub faults : ℕ
  pub finished : Bool

abbrev pub uncounted_sink : {D : Type 0} → D → CountedSink D
uncounted_sink device = record { device = device; faults = 0; finished = false }
