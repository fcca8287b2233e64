-- What a task that transfers was told by the events of its call.
use Rattle.std.specs.Prelude.{◌≡◌, ◌⊎◌, ℕ, List, [], ◌∷◌, flat_map, Option, Some}
use Rattle.rpc_ids.specs.declared.status.Status.{Status}
use Rattle.rpc_handlers.specs.declared.event.Event.{Event}
use Rattle.rpc_handlers.specs.declared.event.Event.TheVariants.{Message, Ended}
use Rattle.transfer_base.specs.declared.piece.Piece.{Piece}
use Rattle.transfer_words.specs.Word.{Word, data_comes, completion}
use Rattle.transfer_client.specs.Polling.{heard_word}

-- the board tells the end of the session with this status
abbrev pub TellsEnd : ℕ → Status → Event → Type 0
TellsEnd session status (Message text) = heard_word session text ≡ Some (completion status)
TellsEnd session status _ = ⊥

-- the call ends with this status
abbrev pub EndsCall : Status → Event → Type 0
EndsCall status (Ended end) = end ≡ status
EndsCall status _ = ⊥

-- one of these events does so
abbrev pub IsTold : (Event → Type 0) → List Event → Type 0
IsTold P [] = ⊥
IsTold P (event ∷ events) = P event ⊎ IsTold P events

-- the piece of the session that comes with a message, if one does
abbrev pub piece_by : Option Word → List Piece
piece_by (Some (data_comes p)) = p ∷ []
piece_by _ = []

abbrev pub piece_in : ℕ → Event → List Piece
piece_in session (Message text) = piece_by (heard_word session text)
piece_in session _ = []

-- the pieces of the session that came, in order
abbrev pub pieces_in : ℕ → List Event → List Piece
pieces_in session events = flat_map (piece_in session) events
