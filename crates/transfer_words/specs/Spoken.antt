-- The chunk that says a word in a session, and what a chunk says.
use Rattle.std.specs.Prelude.{◌≡◌, ℕ, ◌+◌, ◌<◌, ◌≤◌, ◌==◌, ◌^◌, Bool, true, false, if◌then◌else◌, List, length, Option, Some, None, option_map, unwrap_or, Ok}
use Rattle.rpc_ids.specs.declared.Status.{Status}
use Rattle.rpc_ids.specs.declared.Status.TheVariants.{Unknown}
use Rattle.rpc_ids.specs.Status.{status_number, status_of}
use Rattle.transfer_base.specs.declared.Ask.{Ask}
use Rattle.transfer_base.specs.declared.Piece.{Piece}
use Rattle.transfer_chunk.specs.declared.ChunkType.{ChunkType}
use Rattle.transfer_chunk.specs.declared.ChunkType.TheVariants.{Data, Start, ParametersRetransmit, ParametersContinue, Completion, CompletionAck, StartAck, StartAckConfirmation}
use Rattle.transfer_chunk.specs.Chunk.{Chunk, no_chunk}
use Rattle.transfer_chunk.specs.ChunkText.{chunk_text}
use Rattle.transfer_chunk.specs.Reading.{chunk_of}
use Rattle.transfer_chunk.specs.ChunkTypes.{type_number, type_of}
use Rattle.transfer_words.specs.Word.{Word, start, start_ack, confirmation, parameters, data_comes, completion, completion_ack}

-- a chunk of this type that has nothing but its session
abbrev pub of_session : ChunkType → ℕ → Chunk
of_session type session = record no_chunk { ctype = Some (type_number type); session = Some session }

-- the chunk with the fields of an ask; a largest chunk of 0 is none
abbrev pub asked_size : ℕ → Option ℕ
asked_size size = if size == 0 then None else Some size

abbrev pub with_ask : Ask → Chunk → Chunk
with_ask ask c = record c { offset = ask.offset; window_end = ask.window_end; max_chunk = asked_size ask.max_chunk }

abbrev pub ask_type : Bool → ChunkType
ask_type again = if again then ParametersRetransmit else ParametersContinue

-- only the last piece says how much follows: nothing
abbrev pub rest_after : Bool → Option ℕ
rest_after last = if last then Some 0 else None

-- the chunk that says a word in a session: it has these fields and no others
abbrev pub spoken : ℕ → Word → Chunk
spoken s (start resource offset) =
    record no_chunk { ctype = Some (type_number Start); resource = Some resource; version = Some 2; desired = Some s; initial = offset }
spoken s (start_ack offset) = record (of_session StartAck s) { version = Some 2; initial = offset }
spoken s (confirmation ask) = with_ask ask (record (of_session StartAckConfirmation s) { version = Some 2 })
spoken s (parameters ask) = with_ask ask (of_session (ask_type ask.again) s)
spoken s (data_comes p) = record (of_session Data s) { offset = p.offset; bytes = p.bytes; remaining = rest_after p.last }
spoken s (completion status) = record (of_session Completion s) { status = Some (status_number status) }
spoken s completion_ack = of_session CompletionAck s

-- the one spelling of that chunk
abbrev pub text_in : ℕ → Word → List ℕ
text_in s w = chunk_text (spoken s w)

-- the ask in a chunk of parameters, or in a confirmation
abbrev pub ask_in : Bool → Chunk → Ask
ask_in again c = record { again = again; offset = c.offset; window_end = c.window_end; max_chunk = unwrap_or c.max_chunk 0 }

-- the chunk says that nothing follows its data
abbrev pub is_nothing : Option ℕ → Bool
is_nothing None = false
is_nothing (Some n) = n == 0

-- how a chunk says that the transfer ended; without a status nobody knows
abbrev pub status_by : Option ℕ → Status
status_by None = Unknown
status_by (Some n) = status_of n

-- the piece of a data chunk
abbrev pub piece_in : Chunk → Piece
piece_in c = record { offset = c.offset; bytes = c.bytes; last = is_nothing c.remaining }

-- what a chunk of this type says
abbrev pub said_by : ChunkType → Chunk → Word
said_by Data c = data_comes (piece_in c)
said_by Start c = start (unwrap_or c.resource 0) c.initial
said_by ParametersRetransmit c = parameters (ask_in true c)
said_by ParametersContinue c = parameters (ask_in false c)
said_by Completion c = completion (status_by c.status)
said_by CompletionAck c = completion_ack
said_by StartAck c = start_ack c.initial
said_by StartAckConfirmation c = confirmation (ask_in true c)

-- what a chunk says; one of a type that nobody knows says nothing
abbrev pub word_of : Chunk → Option Word
word_of c = option_map (λ type. said_by type c) (type_of c)

-- an ask's fields fit those of a chunk
abbrev pub FitsAsk : Ask → Type 0
FitsAsk ask = (ask.offset < 2 ^ 64) × (ask.window_end < 2 ^ 32) × (ask.max_chunk < 2 ^ 32)

-- the fields of a word fit those of a chunk, and a confirmation goes back to its offset, as a retransmission does
abbrev pub FitsChunk : Word → Type 0
FitsChunk (start resource offset) = (resource < 2 ^ 32) × (offset < 2 ^ 64)
FitsChunk (start_ack offset) = offset < 2 ^ 64
FitsChunk (confirmation ask) = FitsAsk ask × (ask.again ≡ true)
FitsChunk (parameters ask) = FitsAsk ask
FitsChunk (data_comes p) = (p.offset < 2 ^ 64) × (length p.bytes < 2 ^ 64)
FitsChunk (completion status) = Unit {0}
FitsChunk completion_ack = Unit {0}

-- a window that the word asks for ends below 2^32, as a chunk's field for it does
abbrev pub HasSmallWindow : Word → Type 0
HasSmallWindow (confirmation ask) = ask.window_end < 2 ^ 32
HasSmallWindow (parameters ask) = ask.window_end < 2 ^ 32
HasSmallWindow _ = Unit {0}

-- What is said in a session is read as the chunk that was said, and says the same.
pub record IsHeardBack (s : ℕ) (w : Word) : Type 0 where
  pub read : chunk_of (text_in s w) ≡ Ok (spoken s w)
  pub says : word_of (spoken s w) ≡ Some w

abbrev pub WordsAreHeard : Type 0
WordsAreHeard = (s : ℕ) (w : Word) → s < 2 ^ 32 → FitsChunk w → IsHeardBack s w

-- what is said is at most 300 bytes longer than the data in it
abbrev pub data_length : Word → ℕ
data_length (data_comes p) = length p.bytes
data_length _ = 0

abbrev pub WordsAreShort : Type 0
WordsAreShort = (s : ℕ) (w : Word) → length (text_in s w) ≤ data_length w + 300
