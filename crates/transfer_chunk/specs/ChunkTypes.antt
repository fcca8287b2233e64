-- The types of chunks and their numbers.
use Rattle.std.specs.Prelude.{ℕ, List, [], ◌∷◌, Option, Some, None, slice_get}
use Rattle.transfer_chunk.specs.declared.chunk_type.ChunkType.{ChunkType}
use Rattle.transfer_chunk.specs.declared.chunk_type.ChunkType.TheVariants.{Data, Start, ParametersRetransmit, ParametersContinue, Completion, CompletionAck, StartAck, StartAckConfirmation}
use Rattle.transfer_chunk.specs.Chunk.{Chunk}

-- the number of a type on the wire
abbrev pub type_number : ChunkType → ℕ
type_number Data = 0
type_number Start = 1
type_number ParametersRetransmit = 2
type_number ParametersContinue = 3
type_number Completion = 4
type_number CompletionAck = 5
type_number StartAck = 6
type_number StartAckConfirmation = 7

-- all types, each at the place of its number
abbrev pub types : List ChunkType
types =
    Data ∷ Start ∷ ParametersRetransmit ∷ ParametersContinue ∷ Completion ∷ CompletionAck ∷ StartAck ∷ StartAckConfirmation ∷ []

-- the type of a number, if there is one
abbrev pub type_at : ℕ → Option ChunkType
type_at n = slice_get types n

-- the type that a chunk's field 10 gives it; without that field it has data
abbrev pub type_by : Option ℕ → Option ChunkType
type_by None = Some Data
type_by (Some n) = type_at n

abbrev pub type_of : Chunk → Option ChunkType
type_of c = type_by c.ctype
