-- What the sessions of a call of Write do with the store over all that comes.
use Rattle.std.specs.Prelude.{◌≡◌, ℕ, ◌==◌, ◌&&◌, ◌⊎◌, Bool, true, false, if◌then◌else◌, List, [], ◌∷◌, ◌++◌, map, Option, Some, None}
use Rattle.link_io.specs.declared.Shelf.{Shelf}
use Rattle.transfer_base.specs.declared.Piece.{Piece}
use Rattle.transfer_base.specs.PieceLists.{Joins}
use Rattle.transfer_chunk.specs.declared.ChunkType.{ChunkType}
use Rattle.transfer_chunk.specs.declared.ChunkType.TheVariants.{Data}
use Rattle.transfer_chunk.specs.Chunk.{Chunk}
use Rattle.transfer_chunk.specs.ChunkTypes.{type_of}
use Rattle.transfer_words.specs.Spoken.{piece_in}
use Rattle.transfer_words.specs.Saying.{Saying, says, begins, appends, commits, leaves}
use Rattle.transfer_resume.specs.declared.side.Side.TheVariants.{Write}
use Rattle.transfer_resume.specs.Book.{Book, BookStep, Outgoing, new_book, chunk_step, tick_step, end_step}

-- what comes to the sessions of a call
pub data Comes : Type 0 where
  chunk_comes : (chunk : Chunk) → Comes
  time_comes : (now : ℕ) → Comes
  call_ends : Comes

abbrev pub step_at : Book → Comes → BookStep
step_at b (chunk_comes c) = chunk_step b c
step_at b (time_comes now) = tick_step b now
step_at b call_ends = end_step b

-- all that goes out, in order
abbrev pub outs_over : Book → List Comes → List Outgoing
outs_over b [] = []
outs_over b (e ∷ es) = (step_at b e).outs ++ outs_over (step_at b e).after es

-- the store actions among what a session says and does
abbrev pub with_deed : Saying → List Saying → List Saying
with_deed (says w) deeds = deeds
with_deed (begins resource offset) deeds = begins resource offset ∷ deeds
with_deed (appends bytes) deeds = appends bytes ∷ deeds
with_deed commits deeds = commits ∷ deeds
with_deed leaves deeds = leaves ∷ deeds

-- the store actions of a session among these
abbrev pub deeds_of : ℕ → List Outgoing → List Saying
deeds_of id [] = []
deeds_of id (o ∷ outs) = if o.session == id then with_deed o.saying (deeds_of id outs) else deeds_of id outs

abbrev pub is_data : Option ChunkType → Bool
is_data (Some Data) = true
is_data _ = false

-- the chunk is of this session
abbrev pub is_of : ℕ → Option ℕ → Bool
is_of id None = false
is_of id (Some session) = session == id

abbrev pub with_piece : Bool → Piece → List Piece → List Piece
with_piece is p ps = if is then p ∷ ps else ps

-- the pieces that came for a session
abbrev pub came : ℕ → List Comes → List Piece
came id [] = []
came id (chunk_comes c ∷ es) = with_piece (is_data (type_of c) && is_of id c.session) (piece_in c) (came id es)
came id (time_comes now ∷ es) = came id es
came id (call_ends ∷ es) = came id es

abbrev pub joined_bytes : List (List ℕ) → List ℕ
joined_bytes [] = []
joined_bytes (b ∷ bs) = b ++ joined_bytes bs

-- What follows the beginning of an upload: bytes are added, and then nothing more is done, or it is left, or it is whole.
-- It is whole only where all that was added joins, from the offset on, of the pieces that came.
pub data Follows (came : List Piece) (offset : ℕ) (deeds : List Saying) : Type 0 where
  goes_on : (bytes : List (List ℕ)) → deeds ≡ map appends bytes → Follows came offset deeds
  is_left : (bytes : List (List ℕ)) → deeds ≡ map appends bytes ++ leaves ∷ [] → Follows came offset deeds
  is_whole : (bytes : List (List ℕ)) → deeds ≡ map appends bytes ++ commits ∷ [] → Joins came offset (joined_bytes bytes) → Follows came offset deeds

-- a session begins at most once, before all else
abbrev pub IsUpload : List Piece → List Saying → Type 0
IsUpload came deeds = (deeds ≡ []) ⊎ ((resource offset : ℕ) × (rest : List Saying) × (deeds ≡ begins resource offset ∷ rest) × Follows came offset rest)

-- whatever comes to a call of Write, each of its sessions is an upload
abbrev pub AllAreUploads : Type 0
AllAreUploads =
    (shelf : Shelf) (window chunk : ℕ) (es : List Comes) (id : ℕ) →
    IsUpload (came id es) (deeds_of id (outs_over (new_book Write shelf window chunk) es))
