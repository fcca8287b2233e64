-- What a sender sends for all that comes to it.
use Rattle.std.specs.Prelude.{ℕ, List, [], ◌∷◌, ◌++◌, All}
use Rattle.rpc_ids.specs.declared.Status.{Status}
use Rattle.transfer_base.specs.declared.Ask.{Ask}
use Rattle.transfer_base.specs.declared.Piece.{Piece}
use Rattle.transfer_base.specs.PieceLists.{IsPartOf}
use Rattle.transfer_sender.specs.Sender.{Sender, touched, ticked, completed}
use Rattle.transfer_sender.specs.Answer.{answer_to}

-- what comes to a sender, and when
pub data Event : Type 0 where
  ask_comes : (ask : Ask) → (now : ℕ) → Event
  other_chunk_comes : (now : ℕ) → Event
  time_passes : (now : ℕ) → Event
  end_is_told : (status : Status) → Event

abbrev pub after_event : Sender → Event → Sender
after_event s (ask_comes ask now) = (answer_to (touched s now) ask).after
after_event s (other_chunk_comes now) = touched s now
after_event s (time_passes now) = ticked s now
after_event s (end_is_told status) = completed s status

abbrev pub sent_at : Sender → Event → List Piece
sent_at s (ask_comes ask now) = (answer_to (touched s now) ask).pieces
sent_at s (other_chunk_comes now) = []
sent_at s (time_passes now) = []
sent_at s (end_is_told status) = []

-- all that is sent over a whole run
abbrev pub sent : Sender → List Event → List Piece
sent s [] = []
sent s (event ∷ events) = sent_at s event ++ sent (after_event s event) events

-- a sender is honest: all that it sends are parts of its resource
abbrev pub SendsParts : Type 0
SendsParts = (s : Sender) (events : List Event) → All (IsPartOf s.bytes) (sent s events)
