-- What a device in memory holds, and what a call does to it.
use Rattle.std.specs.Prelude.{ℕ, ◌<◌, ◌≤◌, Bool, false, List, length, take, Option, Result, IfOk}
use Rattle.std.specs.Io.KnownBytes.{Appends}

-- a source in memory
pub record Device : Type 0 where
  -- what is left to read
  pub bytes : List ℕ
  -- the numbers of the calls that fail, counted from 1
  pub fails : List ℕ
  -- the calls so far
  pub calls : ℕ
  -- the calls that failed
  pub faults : ℕ

-- a source with these bytes and failing calls, before its first call
abbrev pub fresh : List ℕ → List ℕ → Device
fresh bytes fails = record { bytes = bytes; fails = fails; calls = 0; faults = 0 }

-- a sink in memory
pub record SinkDevice : Type 0 where
  -- what was written
  pub bytes : List ℕ
  -- the numbers of the calls that fail, counted from 1
  pub fails : List ℕ
  -- the calls so far
  pub calls : ℕ
  -- the calls that failed
  pub faults : ℕ
  -- it was told that nothing more comes
  pub finished : Bool

-- a sink with these bytes and failing calls, before its first call
abbrev pub fresh_sink : List ℕ → List ℕ → SinkDevice
fresh_sink bytes fails = record { bytes = bytes; fails = fails; calls = 0; faults = 0; finished = false }

-- on `Ok(n)`, n is at least 1 and at most the length of the piece
abbrev pub TakesSome : {E : Type 0} → Result ℕ E → List ℕ → Type 0
TakesSome result piece = IfOk result (λ n. (0 < n) × (n ≤ length piece))

-- known bytes grow by a beginning of the text
abbrev pub AppendsSome : Option (List ℕ) → Option (List ℕ) → List ℕ → Type 0
AppendsSome old new text = (n : ℕ) × (n ≤ length text) × Appends old new (take n text)
