-- Texts in a slice, one behind the other.
use Rattle.std.specs.Prelude.{◌≡◌, ℕ, ◌+◌, ◌<◌, ◌≤◌, ◌++◌, List, length, take, Option, Some, None}

-- A text was written into a slice behind what stands there up to an offset, and its end is told; or it has no room.
abbrev pub Lays : List ℕ → ℕ → List ℕ → Option ℕ → List ℕ → Type 0
Lays old at text None new = length old < at + length text
Lays old at text (Some end) new = (end ≡ at + length text) × (end ≤ length old) × (take end new ≡ take at old ++ text)
