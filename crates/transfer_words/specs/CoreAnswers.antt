-- What an end says and does for the answers of its core, at the service and at a client alike.
use Rattle.std.specs.Prelude.{ℕ, ◌==◌, Bool, if◌then◌else◌, List, [], ◌∷◌, ◌++◌, map, length, Option, Some, None}
use Rattle.rpc_ids.specs.declared.Status.{Status}
use Rattle.transfer_base.specs.declared.Piece.{Piece}
use Rattle.transfer_sender.specs.Answer.{Answer}
use Rattle.transfer_receiver.specs.declared.answers.Received.{Received}
use Rattle.transfer_receiver.specs.declared.answers.Received.TheVariants.{Ignored, Kept, Again, Ends}
use Rattle.transfer_receiver.specs.declared.answers.Ticked.{Ticked}
use Rattle.transfer_receiver.specs.declared.answers.Ticked.TheVariants.{Quiet, Resend, ResendEnd, Over}
use Rattle.transfer_receiver.specs.Answers.{is_okay}
use Rattle.transfer_words.specs.Word.{parameters, data_comes, completion}
use Rattle.transfer_words.specs.Saying.{Saying, says, appends, commits, leaves}

-- the pieces of a sender, in order
abbrev pub said_pieces : List Piece → List Saying
said_pieces ps = map (λ p. says (data_comes p)) ps

-- a sender sends the pieces that are asked for, unless the ask has ended it
abbrev pub said_or_ended : List Piece → Option Status → List Saying
said_or_ended ps None = said_pieces ps
said_or_ended ps (Some status) = says (completion status) ∷ []

abbrev pub of_answer : Answer → List Saying
of_answer a = said_or_ended a.pieces a.after.ended

-- a sender that gives up tells it
abbrev pub of_timeout : Option Status → List Saying
of_timeout None = []
of_timeout (Some status) = says (completion status) ∷ []

-- the last piece is kept, where it has bytes
abbrev pub kept_last : List ℕ → List Saying
kept_last bytes = if length bytes == 0 then [] else appends bytes ∷ []

-- a receiver that has ended well has kept the last piece, and the resource is whole; any other end leaves its work
abbrev pub end_work : Status → List ℕ → List Saying
end_work status bytes = if is_okay status then kept_last bytes ++ commits ∷ [] else leaves ∷ []

-- a receiver's answer to a piece of these bytes
abbrev pub of_piece : List ℕ → Received → List Saying
of_piece bytes Ignored = []
of_piece bytes (Kept None) = appends bytes ∷ []
of_piece bytes (Kept (Some ask)) = appends bytes ∷ says (parameters ask) ∷ []
of_piece bytes (Again ask) = says (parameters ask) ∷ []
of_piece bytes (Ends status) = end_work status bytes ++ says (completion status) ∷ []

-- a receiver's answer to a tick. One that gives up in its data phase leaves its work, and tells it; else its end is told
abbrev pub of_tick : Bool → Ticked → List Saying
of_tick going Quiet = []
of_tick going (Resend ask) = says (parameters ask) ∷ []
of_tick going (ResendEnd status) = says (completion status) ∷ []
of_tick going (Over status) = if going then leaves ∷ says (completion status) ∷ [] else []
