-- Where bytes stand in a message.
use Rattle.std.specs.Prelude.{◌≡◌, ℕ, ◌+◌, ◌≤◌, List, length, take, drop}
use Rattle.proto_wire.specs.Reading.{Reading}

-- this part of the message begins at this offset
pub record StandsAt (bytes part : List ℕ) (at : ℕ) : Type 0 where
  pub within : at + length part ≤ length bytes
  pub same : take (length part) (drop at bytes) ≡ part

-- the reading is one of these bytes
pub record IsReadingOf (bytes : List ℕ) (reading : Reading) : Type 0 where
  pub within : reading.at ≤ length bytes
  pub left : reading.left ≡ drop reading.at bytes
