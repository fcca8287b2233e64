-- What a receiver keeps of all that comes to it.
use Rattle.std.specs.Prelude.{◌≡◌, ℕ, ◌||◌, Bool, true, false, if◌then◌else◌, MatchBool, List, [], ◌∷◌, length, take, drop, All}
use Rattle.transfer_base.specs.declared.Piece.{Piece}
use Rattle.transfer_base.specs.PieceLists.{IsPartOf, AreConsecutive, bytes_of, IsPickedFrom, OnlyTheLastEnds, NoneEnds, Joins}
use Rattle.transfer_receiver.specs.Receiver.{Receiver, new_receiver}
use Rattle.transfer_receiver.specs.PieceRules.{PieceOutcome, piece_outcome, active_at}
use Rattle.transfer_receiver.specs.TickRules.{tick_outcome, acknowledged}
use Rattle.transfer_receiver.specs.Answers.{is_kept, ends_well}

-- what comes to a receiver, and when
pub data Event : Type 0 where
  piece_comes : (piece : Piece) → (now : ℕ) → Event
  time_passes : (now : ℕ) → Event
  end_acknowledged : Event

-- what a receiver does with a piece that comes
abbrev pub outcome_of : Receiver → Piece → ℕ → PieceOutcome
outcome_of r p now = piece_outcome (active_at now r) p.offset (length p.bytes) p.last

abbrev pub after_event : Receiver → Event → Receiver
after_event r (piece_comes p now) = (outcome_of r p now).after
after_event r (time_passes now) = (tick_outcome r now).after
after_event r end_acknowledged = acknowledged r

-- the pieces that came
abbrev pub came : List Event → List Piece
came [] = []
came (piece_comes p now ∷ events) = p ∷ came events
came (time_passes now ∷ events) = came events
came (end_acknowledged ∷ events) = came events

-- with a piece in front, if it is kept
abbrev pub with_kept : Bool → Piece → List Piece → List Piece
with_kept kept p ps = if kept then p ∷ ps else ps

-- the pieces that were answered as kept
abbrev pub kept_pieces : Receiver → List Event → List Piece
kept_pieces r [] = []
kept_pieces r (piece_comes p now ∷ events) = with_kept (is_kept (outcome_of r p now).answer) p (kept_pieces (outcome_of r p now).after events)
kept_pieces r (time_passes now ∷ events) = kept_pieces (tick_outcome r now).after events
kept_pieces r (end_acknowledged ∷ events) = kept_pieces (acknowledged r) events

-- some piece was answered with the end OK
abbrev pub has_ended_well : Receiver → List Event → Bool
has_ended_well r [] = false
has_ended_well r (piece_comes p now ∷ events) = ends_well (outcome_of r p now).answer || has_ended_well (outcome_of r p now).after events
has_ended_well r (time_passes now ∷ events) = has_ended_well (tick_outcome r now).after events
has_ended_well r (end_acknowledged ∷ events) = has_ended_well (acknowledged r) events

-- The kept pieces come in order and join from the first offset on. The end OK comes exactly at the last of them.
pub record KeepsInOrder (offset : ℕ) (came kept : List Piece) (ended_well : Bool) : Type 0 where
  pub in_order : IsPickedFrom kept came
  pub consecutive : AreConsecutive offset kept
  pub last : MatchBool ended_well (OnlyTheLastEnds kept) (NoneEnds kept)

abbrev pub KeptPiecesJoin : Type 0
KeptPiecesJoin =
    (offset span chunk now : ℕ) (events : List Event) →
    let r = new_receiver offset span chunk now in
    KeepsInOrder offset (came events) (kept_pieces r events) (has_ended_well r events)

-- so all that is kept by an end OK joins
abbrev pub EndedWellJoins : Type 0
EndedWellJoins =
    (offset span chunk now : ℕ) (events : List Event) →
    let r = new_receiver offset span chunk now in
    has_ended_well r events ≡ true → Joins (came events) offset (bytes_of (kept_pieces r events))

-- the receiver has kept a beginning of what the resource has from an offset on, and all of that once it has ended OK
abbrev pub KeepsFrom : List ℕ → ℕ → Receiver → List Event → Type 0
KeepsFrom resource offset r events =
    let kept = bytes_of (kept_pieces r events) in
    (kept ≡ take (length kept) (drop offset resource)) × (has_ended_well r events ≡ true → kept ≡ drop offset resource)

-- so it does of pieces of one resource, whichever were lost, repeated or late, from its first offset on
abbrev pub KeepsTheResource : Type 0
KeepsTheResource =
    (resource : List ℕ) (offset span chunk now : ℕ) (events : List Event) →
    All (IsPartOf resource) (came events) → KeepsFrom resource offset (new_receiver offset span chunk now) events

-- what joins of parts of one resource, from an offset on, is all of it from there
abbrev pub JoinedPartsAreTheResource : Type 0
JoinedPartsAreTheResource =
    (resource : List ℕ) (came : List Piece) (offset : ℕ) (bytes : List ℕ) → Joins came offset bytes → All (IsPartOf resource) came → bytes ≡ drop offset resource
