-- A chunk in words.
use Rattle.std.specs.Prelude.{ℕ, ◌==◌, if◌then◌else◌, List, [], ◌∷◌, ◌++◌, length, codes, Option, Some, None, Result, Ok, Err}
use Rattle.std.specs.Fmt.{decimal}
use Rattle.rpc_ids.specs.Status.{status_name, status_of}
use Rattle.transfer_chunk.specs.declared.chunk_type.ChunkType.{ChunkType}
use Rattle.transfer_chunk.specs.declared.chunk_type.ChunkType.TheVariants.{Data, Start, ParametersRetransmit, ParametersContinue, Completion, CompletionAck, StartAck, StartAckConfirmation}
use Rattle.transfer_chunk.specs.Chunk.{Chunk}
use Rattle.transfer_chunk.specs.ChunkTypes.{type_by}
use Rattle.transfer_chunk.specs.Reading.{chunk_of}

abbrev pub chunk_type_name : ChunkType → List ℕ
chunk_type_name Data = codes "DATA"
chunk_type_name Start = codes "START"
chunk_type_name ParametersRetransmit = codes "PARAMETERS_RETRANSMIT"
chunk_type_name ParametersContinue = codes "PARAMETERS_CONTINUE"
chunk_type_name Completion = codes "COMPLETION"
chunk_type_name CompletionAck = codes "COMPLETION_ACK"
chunk_type_name StartAck = codes "START_ACK"
chunk_type_name StartAckConfirmation = codes "START_ACK_CONFIRMATION"

-- a number behind its word, where it is there
abbrev pub kept_words : List ℕ → Option ℕ → List (List ℕ)
kept_words word None = []
kept_words word (Some n) = word ∷ decimal n ∷ []

-- and where it isn't 0
abbrev pub number_words : List ℕ → ℕ → List (List ℕ)
number_words word n = if n == 0 then [] else word ∷ decimal n ∷ []

-- the type by its name, and a number that no type has by itself; a chunk without a type has data
abbrev pub numbered_type : Option ℕ → List (List ℕ)
numbered_type None = []
numbered_type (Some n) = codes "type" ∷ decimal n ∷ []

abbrev pub named_type : Option ℕ → Option ChunkType → List (List ℕ)
named_type number (Some ctype) = chunk_type_name ctype ∷ []
named_type number None = numbered_type number

abbrev pub chunk_type_words : Option ℕ → List (List ℕ)
chunk_type_words number = named_type number (type_by number)

-- the session, which is the one that is wanted where only that is there
abbrev pub session_words : Option ℕ → Option ℕ → List (List ℕ)
session_words None desired = kept_words (codes "session") desired
session_words (Some session) desired = codes "session" ∷ decimal session ∷ kept_words (codes "desired") desired

-- how many bytes follow: none behind the last data
abbrev pub remaining_words : Option ℕ → List (List ℕ)
remaining_words None = []
remaining_words (Some n) = if n == 0 then codes "last" ∷ [] else codes "remaining" ∷ decimal n ∷ []

abbrev pub ended_words : Option ℕ → List (List ℕ)
ended_words None = []
ended_words (Some number) = codes "status" ∷ status_name (status_of number) ∷ []

-- which transfer a chunk is of
abbrev pub opening_words : Chunk → List (List ℕ)
opening_words c =
    session_words c.session c.desired ++ kept_words (codes "resource") c.resource ++ kept_words (codes "version") c.version
    ++ number_words (codes "initial") c.initial

-- its data
abbrev pub data_words : Chunk → List (List ℕ)
data_words c = number_words (codes "offset") c.offset ++ number_words (codes "bytes") (length c.bytes) ++ remaining_words c.remaining

-- what the receiver wants
abbrev pub window_words : Chunk → List (List ℕ)
window_words c =
    number_words (codes "window_end") c.window_end ++ kept_words (codes "max_chunk") c.max_chunk ++ kept_words (codes "pending") c.pending
    ++ number_words (codes "min_delay") c.min_delay

-- its end
abbrev pub end_words : Chunk → List (List ℕ)
end_words c = ended_words c.status ++ number_words (codes "transfer_id") c.transfer_id

abbrev pub fields_words : Chunk → List (List ℕ)
fields_words c = codes "chunk" ∷ [] ++ chunk_type_words c.ctype ++ opening_words c ++ data_words c ++ window_words c ++ end_words c

abbrev pub chunk_said : Result Chunk ℕ → List (List ℕ)
chunk_said (Err at) = codes "chunk" ∷ codes "malformed" ∷ codes "at" ∷ decimal at ∷ []
chunk_said (Ok c) = fields_words c

-- what a payload says as a chunk: its type, and each field that is there; or where it is malformed
abbrev pub chunk_words : List ℕ → List (List ℕ)
chunk_words payload = chunk_said (chunk_of payload)
