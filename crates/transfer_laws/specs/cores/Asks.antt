-- How often a receiver asks while all pieces come, in order and whole.
use Rattle.std.specs.Prelude.{◌≡◌, ℕ, ◌+◌, ◌/◌, ◌≤◌, List, [], ◌∷◌, length, Some, None}
use Rattle.transfer_base.specs.declared.Piece.{Piece}
use Rattle.transfer_base.specs.declared.limits.TheConstants.{MAX_RESOURCE}
use Rattle.transfer_base.specs.PieceLists.{AreConsecutive, OnlyTheLastEnds, end_of}
use Rattle.transfer_receiver.specs.declared.answers.Received.{Received}
use Rattle.transfer_receiver.specs.declared.answers.Received.TheVariants.{Ignored, Kept, Again, Ends}
use Rattle.transfer_receiver.specs.Receiver.{Receiver, new_receiver}
use Rattle.transfer_receiver.specs.Run.{outcome_of}

-- each of these pieces but the last has so many bytes, and the last no more
abbrev pub AreWhole : ℕ → List Piece → Type 0
AreWhole chunk [] = Unit {0}
AreWhole chunk (p ∷ []) = length p.bytes ≤ chunk
AreWhole chunk (p ∷ q ∷ ps) = (length p.bytes ≡ chunk) × AreWhole chunk (q ∷ ps)

-- all pieces of a resource from an offset on, in order
pub record ComeInOrder (offset chunk : ℕ) (pieces : List Piece) : Type 0 where
  pub consecutive : AreConsecutive offset pieces
  pub whole : AreWhole chunk pieces
  pub last : OnlyTheLastEnds pieces
  pub within : end_of offset pieces ≤ MAX_RESOURCE

-- how often an answer asks
abbrev pub asks_in : Received → ℕ
asks_in Ignored = 0
asks_in (Kept None) = 0
asks_in (Kept (Some ask)) = 1
asks_in (Again ask) = 1
asks_in (Ends status) = 0

-- over all these pieces, which come at one moment
abbrev pub asks_over : ℕ → Receiver → List Piece → ℕ
asks_over now r [] = 0
asks_over now r (p ∷ ps) = asks_in (outcome_of r p now).answer + asks_over now (outcome_of r p now).after ps

-- The first parameters apart, a receiver asks at most once for 32 pieces, and five times besides.
abbrev pub AsksAreFew : Type 0
AsksAreFew =
    (offset window chunk now : ℕ) (pieces : List Piece) → 1 ≤ window → window ≤ 64 → 1 ≤ chunk → ComeInOrder offset chunk pieces →
    asks_over now (new_receiver offset window chunk now) pieces ≤ 5 + length pieces / 32
