-- How a sender cuts a window of its resource into pieces: what is asked, and how it is computed.
use Rattle.std.specs.Prelude.{◌≡◌, ℕ, ◌+◌, ◌-◌, ◌<◌, ◌≤◌, ◌==◌, ◌⊎◌, ◌↔◌, nat_lt, min, List, [], ◌∷◌, length, take, drop, zero, suc, All, if◌then◌else◌}
use Rattle.transfer_base.specs.declared.Piece.{Piece}
use Rattle.transfer_base.specs.PieceLists.{IsPartOf, AreConsecutive, end_of}
use Rattle.transfer_sender.specs.declared.cut.TheConstants.{MAX_PIECES}

-- The pieces that a sender sends of a resource for one window, from a position on.
pub record IsCut (resource : List ℕ) (chunk window_end position : ℕ) (pieces : List Piece) : Type 0 where
  pub consecutive : AreConsecutive position pieces
  pub parts : All (IsPartOf resource) pieces
  -- each has the smallest of the chunk's size, the rest of the window and the rest of the resource
  pub sizes : All (λ p. length p.bytes ≡ min chunk (min (window_end - p.offset) (length resource - p.offset))) pieces
  pub not_empty : All (λ p. 0 < length p.bytes) pieces
  pub count : length pieces ≤ MAX_PIECES
  -- they go up to the window's end or the resource's, but where there are too many for one answer
  pub whole : (length pieces ≡ MAX_PIECES) ⊎ (min window_end (length resource) ≤ end_of position pieces)

-- the piece of a resource at an offset, of so many bytes
abbrev pub piece_at : List ℕ → ℕ → ℕ → Piece
piece_at resource offset size =
    record { offset = offset; bytes = take size (drop offset resource); last = offset + size == length resource }

-- at most so many pieces from an offset up to a stop, each of the chunk's size or of what is left up to the stop
unfoldable pub pieces_up_to : List ℕ → ℕ → ℕ → ℕ → ℕ → List Piece
pieces_up_to resource chunk stop offset zero = []
pieces_up_to resource chunk stop offset (suc most) =
    if nat_lt offset stop
    then piece_at resource offset (min chunk (stop - offset)) ∷ pieces_up_to resource chunk stop (offset + min chunk (stop - offset)) most
    else []

-- the pieces of one window
abbrev pub pieces_of_window : List ℕ → ℕ → ℕ → ℕ → List Piece
pieces_of_window resource chunk window_end position =
    pieces_up_to resource chunk (min window_end (length resource)) position MAX_PIECES

-- what is computed is what is asked, and nothing else is
abbrev pub CutIsExact : Type 0
CutIsExact =
    (resource : List ℕ) (chunk window_end position : ℕ) (pieces : List Piece) → 1 ≤ chunk →
    (pieces ≡ pieces_of_window resource chunk window_end position) ↔ IsCut resource chunk window_end position pieces
