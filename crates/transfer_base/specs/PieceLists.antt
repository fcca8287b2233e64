-- Pieces of a resource, and lists of them.
use Rattle.std.specs.Prelude.{◌≡◌, ℕ, ◌+◌, ◌==◌, ◌⊎◌, true, false, List, [], ◌∷◌, ◌++◌, length, take, drop, All}
use Rattle.transfer_base.specs.declared.piece.Piece.{Piece}

-- an honest piece of a resource: it has the resource's bytes at its offset, and is the last one exactly where it ends
-- with the resource
pub record IsPartOf (resource : List ℕ) (piece : Piece) : Type 0 where
  pub bytes : piece.bytes ≡ take (length piece.bytes) (drop piece.offset resource)
  pub last : piece.last ≡ (piece.offset + length piece.bytes == length resource)

-- the first piece begins at this offset, and each other where the one before ends
abbrev pub AreConsecutive : ℕ → List Piece → Type 0
AreConsecutive offset [] = Unit {0}
AreConsecutive offset (p ∷ ps) = (p.offset ≡ offset) × AreConsecutive (offset + length p.bytes) ps

-- there are pieces, and the first begins at this offset
abbrev pub BeginsAt : ℕ → List Piece → Type 0
BeginsAt offset [] = ⊥
BeginsAt offset (p ∷ ps) = p.offset ≡ offset

-- where these pieces end, if they are consecutive from an offset on
abbrev pub end_of : ℕ → List Piece → ℕ
end_of offset [] = offset
end_of offset (p ∷ ps) = end_of (offset + length p.bytes) ps

-- the bytes of these pieces, in order
abbrev pub bytes_of : List Piece → List ℕ
bytes_of [] = []
bytes_of (p ∷ ps) = p.bytes ++ bytes_of ps

-- these pieces were picked from those, in their order
abbrev pub IsPickedFrom : List Piece → List Piece → Type 0
IsPickedFrom [] ps = Unit {0}
IsPickedFrom (q ∷ qs) [] = ⊥
IsPickedFrom (q ∷ qs) (p ∷ ps) = ((q ≡ p) × IsPickedFrom qs ps) ⊎ IsPickedFrom (q ∷ qs) ps

-- the last of these pieces says that it is the last, and no other does
abbrev pub OnlyTheLastEnds : List Piece → Type 0
OnlyTheLastEnds [] = ⊥
OnlyTheLastEnds (p ∷ []) = p.last ≡ true
OnlyTheLastEnds (p ∷ q ∷ ps) = (p.last ≡ false) × OnlyTheLastEnds (q ∷ ps)

-- none of these pieces says that it is the last
abbrev pub NoneEnds : List Piece → Type 0
NoneEnds ps = All (λ p. p.last ≡ false) ps

-- some of the pieces that came join, from an offset on, to just these bytes
pub record Joins (came : List Piece) (offset : ℕ) (bytes : List ℕ) : Type 0 where
  pub picked : List Piece
  pub in_order : IsPickedFrom picked came
  pub consecutive : AreConsecutive offset picked
  pub last : OnlyTheLastEnds picked
  pub data_is : bytes ≡ bytes_of picked
