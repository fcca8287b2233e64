-- A writer and the bytes that it appends to.
use Rattle.std.specs.Prelude.{◌≡◌, ℕ, ◌+◌, ◌<◌, ◌≤◌, ◌++◌, List, length, take, Option, Some, None}
use Rattle.proto_wire.specs.declared.writer.Writer.{Writer}

-- the bytes that were written so far, with those that stood before
abbrev pub written : Writer → List ℕ
written w = w.out.now.items

-- both writers append to one vector
abbrev pub HasSameOut : Writer → Writer → Type 0
HasSameOut old new = new.out.ghost_name ≡ old.out.ghost_name

-- A text was written into a slice behind what stands there up to an offset, and its end is told; or it has no room.
abbrev pub Lays : List ℕ → ℕ → List ℕ → Option ℕ → List ℕ → Type 0
Lays old at text None new = length old < at + length text
Lays old at text (Some end) new = (end ≡ at + length text) × (end ≤ length old) × (take end new ≡ take at old ++ text)
