-- What a push leaves.
use Rattle.std.specs.Prelude.{◌≡◌, ℕ, List, ◌++◌, take}
use Rattle.std.specs.Borrow.{MutBor, Fml}
use Rattle.std.specs.Io.BufRead.{Rests}
use Rattle.hdlc_frame.specs.declared.found.Pushed.{Pushed}
use Rattle.hdlc_frame.specs.contracts.decoder.Decoder.{the_row}
use Rattle.hdlc_frame.specs.Machine.{HasRead, Reading}

-- the decoder has then read the bytes taken too, and keeps its limit
pub record HasTaken (old : Reading) (bytes : List ℕ) (new : Reading) : Type 0 where
  pub limit : new.limit ≡ old.limit
  pub read : (stream : List ℕ) → HasRead old stream → HasRead new (stream ++ bytes)

abbrev pub Leaves : MutBor Reading → List ℕ → Pushed → Fml
Leaves decoder piece pushed = Rests the_row decoder (HasTaken decoder.now (take pushed.taken piece))
