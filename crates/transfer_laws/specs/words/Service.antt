-- What the sessions of a call of the service say, by all that comes to them.
use Rattle.std.specs.Prelude.{◌≡◌, ℕ, Bool, ◌<◌, ◌≤◌, ◌^◌, List, Some, IfSome, unwrap_or}
use Rattle.std.specs.List.{AllByRecursion}
use Rattle.link_io.specs.declared.Shelf.{Shelf}
use Rattle.link_io.specs.Resources.{first_of}
use Rattle.transfer_base.specs.declared.limits.TheConstants.{MAX_CHUNK, MAX_WINDOW}
use Rattle.transfer_chunk.specs.declared.ChunkType.TheVariants.{Start}
use Rattle.transfer_chunk.specs.Chunk.{Chunk}
use Rattle.transfer_chunk.specs.ChunkTypes.{type_of}
use Rattle.transfer_words.specs.Word.{Word, start_ack}
use Rattle.transfer_words.specs.Spoken.{word_of}
use Rattle.transfer_words.specs.Saying.{Saying, says, begins}
use Rattle.transfer_resume.specs.declared.side.Side.{Side}
use Rattle.transfer_resume.specs.declared.side.Side.TheVariants.{Read, Write}
use Rattle.transfer_resume.specs.Book.{Outgoing, new_book}
use Rattle.transfer_resume.specs.Opening.{agreed_offset}
use Rattle.transfer_resume.specs.Uploads.{Comes, chunk_comes, time_comes, call_ends, outs_over}
use Rattle.transfer_laws.specs.words.Said.{FitsSaying, OkayWhere, SaysOkayWhere, SaysPiecesOf}

-- what holds of each chunk that comes
abbrev pub OfChunk : (Chunk → Type 0) → Comes → Type 0
OfChunk P (chunk_comes c) = P c
OfChunk P (time_comes now) = Unit {0}
OfChunk P call_ends = Unit {0}

abbrev pub AllChunks : (Chunk → Type 0) → List Comes → Type 0
AllChunks P es = AllByRecursion (OfChunk P) es

-- what is said and done in a session
abbrev pub InSession : ℕ → (Saying → Type 0) → List Outgoing → Type 0
InSession id P outs = AllByRecursion (λ o. o.session ≡ id → P o.saying) outs

-- the ids in a chunk are below 2^32
pub record HasSmallIds (c : Chunk) : Type 0 where
  pub transfer_id : c.transfer_id < 2 ^ 32
  pub session : IfSome c.session (λ s. s < 2 ^ 32)
  pub desired : IfSome c.desired (λ s. s < 2 ^ 32)

-- in a session with such an id a word is said that fits
pub record FitsChunks (o : Outgoing) : Type 0 where
  pub session : o.session < 2 ^ 32
  pub saying : FitsSaying o.saying

-- where a receiver asks for windows of at most 64 chunks of at most 1,024 bytes, all that is said fits chunks
abbrev pub ServiceFits : Type 0
ServiceFits =
    (side : Side) (shelf : Shelf) (window chunk : ℕ) (es : List Comes) → window ≤ MAX_WINDOW → chunk ≤ MAX_CHUNK → AllChunks HasSmallIds es
    → AllByRecursion FitsChunks (outs_over (new_book side shelf window chunk) es)

-- a START of the session asks for this resource, from an offset of which this holds
abbrev pub StartsOn : ℕ → ℕ → (ℕ → Type 0) → Chunk → Type 0
StartsOn id resource P c = type_of c ≡ Some Start → c.desired ≡ Some id → (unwrap_or c.resource 0 ≡ resource) × P c.initial

-- the work begins on this resource, at this offset, and the client is told of the same
abbrev pub BeginsOn : ℕ → ℕ → Saying → Type 0
BeginsOn resource offset (begins r o) = (r ≡ resource) × (o ≡ offset)
BeginsOn resource offset (says (start_ack o)) = o ≡ offset
BeginsOn resource offset _ = Unit {0}

-- a session of Write that is asked for one resource from one offset begins there, or at what is left, and says so
abbrev pub WritesBeginAsAsked : Type 0
WritesBeginAsAsked =
    (shelf : Shelf) (window chunk id resource asked : ℕ) (es : List Comes) → AllChunks (StartsOn id resource (λ o. o ≡ asked)) es
    → InSession id (BeginsOn resource (agreed_offset shelf resource asked)) (outs_over (new_book Write shelf window chunk) es)

-- a session of Read that is asked for one resource says data of it alone
abbrev pub ReadsAreHonest : Type 0
ReadsAreHonest =
    (shelf : Shelf) (window chunk id resource : ℕ) (es : List Comes) → AllChunks (StartsOn id resource (λ o. Unit {0})) es
    → InSession id (SaysPiecesOf (first_of resource shelf.full)) (outs_over (new_book Read shelf window chunk) es)

-- a chunk tells the end OK of the session only where it may
abbrev pub OkayIn : ℕ → Bool → Chunk → Type 0
OkayIn id may c = c.session ≡ Some id → (w : Word) → word_of c ≡ Some w → OkayWhere may w

-- a session of Read that was never told the end OK never says it
abbrev pub ReadsEndAsTold : Type 0
ReadsEndAsTold =
    (shelf : Shelf) (window chunk id : ℕ) (may : Bool) (es : List Comes) → AllChunks (OkayIn id may) es
    → InSession id (SaysOkayWhere may) (outs_over (new_book Read shelf window chunk) es)
