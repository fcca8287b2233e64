-- What reading up to a limit took from a source.
use Rattle.std.specs.Prelude.{ℕ, ◌≤◌, List, length, Option}
use Rattle.std.specs.Io.KnownBytes.{Consumes}

-- known bytes lose at most so many from the front
pub record ConsumesUpTo (limit : ℕ) (old new : Option (List ℕ)) : Type 0 where
  pub bytes : List ℕ
  pub within : length bytes ≤ limit
  pub consumed : Consumes old new bytes
