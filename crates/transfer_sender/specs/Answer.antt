-- What a sender does with parameters.
use Rattle.std.specs.Prelude.{ℕ, ◌==◌, ◌&&◌, nat_lt, min, List, [], ◌∷◌, length, Bool, if◌then◌else◌, Some}
use Rattle.rpc_ids.specs.declared.Status.TheVariants.{OutOfRange}
use Rattle.transfer_base.specs.declared.Ask.{Ask}
use Rattle.transfer_base.specs.declared.Piece.{Piece}
use Rattle.transfer_base.specs.declared.limits.TheConstants.{MAX_CHUNK}
use Rattle.transfer_base.specs.PieceLists.{end_of}
use Rattle.transfer_sender.specs.Sender.{Sender}
use Rattle.transfer_sender.specs.Cut.{piece_at, pieces_of_window}

-- the size of a chunk: that of the ask, if it gives one, and at most the largest
abbrev pub chunk_size : ℕ → ℕ
chunk_size asked = if asked == 0 then MAX_CHUNK else min asked MAX_CHUNK

-- the one piece of a sender that stands at the end of its resource, and is asked to send from there
abbrev pub empty_last_piece : List ℕ → Piece
empty_last_piece resource = piece_at resource (length resource) 0

-- a retransmission goes back to the offset of the ask
abbrev pub pieces_again : List ℕ → Ask → List Piece
pieces_again resource ask =
    if ask.offset == length resource then empty_last_piece resource ∷ []
    else pieces_of_window resource (chunk_size ask.max_chunk) ask.window_end ask.offset

-- where the pieces that answer an ask begin
abbrev pub start_of : Sender → Ask → ℕ
start_of s ask = if ask.again then ask.offset else s.position

abbrev pub pieces_for : Sender → Ask → List Piece
pieces_for s ask =
    if ask.again then pieces_again s.bytes ask
    else pieces_of_window s.bytes (chunk_size ask.max_chunk) ask.window_end s.position

-- the ask goes back to an offset that the resource does not have
abbrev pub is_past_end : Sender → Ask → Bool
is_past_end s ask = ask.again && nat_lt (length s.bytes) ask.offset

-- what a sender is then, and what it sends
pub record Answer : Type 0 where
  pub after : Sender
  pub pieces : List Piece

abbrev pub answer_to : Sender → Ask → Answer
answer_to s ask =
    if is_past_end s ask then record { after = record s { ended = Some OutOfRange }; pieces = [] }
    else record { after = record s { position = end_of (start_of s ask) (pieces_for s ask) }; pieces = pieces_for s ask }
