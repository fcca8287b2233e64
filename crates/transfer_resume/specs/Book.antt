-- All sessions of one call, and what they make of a chunk, of the time and of the end of the call.
use Rattle.std.specs.Prelude.{◌≡◌, ℕ, ◌<◌, ◌≤◌, ◌==◌, nat_lt, Bool, if◌then◌else◌, List, [], ◌∷◌, map, flat_map, length, insert, slice_set, Option, Some, None, unwrap_or}
use Rattle.rpc_ids.specs.declared.Status.TheVariants.{Unimplemented}
use Rattle.rpc_handlers.specs.declared.answer.Out.{Out}
use Rattle.link_io.specs.declared.Shelf.{Shelf}
use Rattle.transfer_chunk.specs.declared.ChunkType.{ChunkType}
use Rattle.transfer_chunk.specs.declared.ChunkType.TheVariants.{Start}
use Rattle.transfer_chunk.specs.Chunk.{Chunk}
use Rattle.transfer_chunk.specs.ChunkTypes.{type_of}
use Rattle.transfer_words.specs.Word.{Word, completion}
use Rattle.transfer_words.specs.Spoken.{said_by}
use Rattle.transfer_words.specs.Saying.{Saying, Stepped, says, out_of}
use Rattle.transfer_resume.specs.declared.side.Side.{Side}
use Rattle.transfer_resume.specs.declared.stage.Stage.{Stage}
use Rattle.transfer_resume.specs.Session.{Service, Row}
use Rattle.transfer_resume.specs.Hears.{session_hears}
use Rattle.transfer_resume.specs.Ticks.{stage_ticks, stage_stops}

pub record Book : Type 0 where
  pub service : Service
  -- the sessions so far, by rising id
  pub rows : List Row

abbrev pub new_book : Side → Shelf → ℕ → ℕ → Book
new_book side shelf window chunk = record { service = record { side = side; shelf = shelf; window = window; chunk = chunk; time = 0 }; rows = [] }

-- there are no more sessions than a call may have
abbrev pub HasFew : Book → Type 0
HasFew b = length b.rows ≤ 256

-- the call has room for one session more
abbrev pub has_room : Book → Bool
has_room b = nat_lt (length b.rows) 256

-- where a session stands, if it is there
abbrev pub stage_of : ℕ → List Row → Option Stage
stage_of id [] = None
stage_of id (r ∷ rows) = if r.id == id then Some r.stage else stage_of id rows

-- a session that is there stands so from now on
abbrev pub replaced : ℕ → Stage → List Row → List Row
replaced id stage [] = []
replaced id stage (r ∷ rows) = if r.id == id then record { id = id; stage = stage } ∷ rows else r ∷ replaced id stage rows

-- a new session, in front of those with larger ids
abbrev pub with_new : ℕ → Stage → List Row → List Row
with_new id stage [] = record { id = id; stage = stage } ∷ []
with_new id stage (r ∷ rows) = if nat_lt id r.id then record { id = id; stage = stage } ∷ r ∷ rows else r ∷ with_new id stage rows

-- the sessions, of which one stood so before, if it was there, and stands so now
abbrev pub placed : ℕ → Option Stage → Option Stage → List Row → List Row
placed id before None rows = rows
placed id (Some old) (Some new) rows = replaced id new rows
placed id None (Some new) rows = with_new id new rows

-- something that is said or done in a session
pub record Outgoing : Type 0 where
  pub session : ℕ
  pub saying : Saying

abbrev pub in_session : ℕ → List Saying → List Outgoing
in_session id sayings = map (λ saying. record { session = id; saying = saying }) sayings

-- as items of an answer
abbrev pub spelled : Outgoing → Out
spelled o = out_of o.session o.saying

abbrev pub spelled_all : List Outgoing → List Out
spelled_all outgoing = map spelled outgoing

-- all sessions then, and what goes out, in order
pub record BookStep : Type 0 where
  pub after : Book
  pub outs : List Outgoing

abbrev pub answering : Book → ℕ → List Saying → BookStep
answering b id sayings = record { after = b; outs = in_session id sayings }

-- a session has made a step
abbrev pub moved : Book → ℕ → Stepped (Option Stage) → BookStep
moved b id step = record {
  after = record b { rows = placed id (stage_of id b.rows) step.after b.rows };
  outs = in_session id step.sayings;
}

-- a word for a session moves that session alone
abbrev pub word_step : Book → ℕ → Word → BookStep
word_step b id w = moved b id (session_hears b.service (has_room b) (stage_of id b.rows) w)

abbrev pub ignoring : Book → BookStep
ignoring b = record { after = b; outs = [] }

-- the id that a START of another version is told of
abbrev pub told_id : Chunk → ℕ
told_id c = unwrap_or c.desired (unwrap_or c.session c.transfer_id)

-- a START opens the session that the client wants, unless that is 0; one of a version below 2 opens none
abbrev pub wanted : Book → Chunk → Option ℕ → BookStep
wanted b c None = ignoring b
wanted b c (Some id) = if id == 0 then ignoring b else word_step b id (said_by Start c)

abbrev pub start_step : Book → Chunk → BookStep
start_step b c = if nat_lt (unwrap_or c.version 0) 2 then answering b (told_id c) (says (completion Unimplemented) ∷ []) else wanted b c c.desired

-- any other chunk is of the session that it names
abbrev pub named : Book → ChunkType → Chunk → Option ℕ → BookStep
named b type c None = ignoring b
named b type c (Some id) = word_step b id (said_by type c)

abbrev pub typed_step : Book → Chunk → Option ChunkType → BookStep
typed_step b c None = ignoring b
typed_step b c (Some Start) = start_step b c
typed_step b c (Some type) = named b type c c.session

-- what the service makes of a chunk; one of a type that nobody knows is none
abbrev pub chunk_step : Book → Chunk → BookStep
chunk_step b c = typed_step b c (type_of c)

-- all sessions, by rising id
abbrev pub row_by : (Stage → Stepped Stage) → Row → Row
row_by f r = record r { stage = (f r.stage).after }

abbrev pub row_says : (Stage → Stepped Stage) → Row → List Outgoing
row_says f r = in_session r.id (f r.stage).sayings

abbrev pub all_step : Book → (Stage → Stepped Stage) → BookStep
all_step b f = record { after = record b { rows = map (row_by f) b.rows }; outs = flat_map (row_says f) b.rows }

abbrev pub at_time : ℕ → Book → Book
at_time now b = record b { service = record b.service { time = now } }

abbrev pub tick_step : Book → ℕ → BookStep
tick_step b now = all_step (at_time now b) (stage_ticks b.service.side now)

abbrev pub end_step : Book → BookStep
end_step b = all_step b (stage_stops b.service.side)

-- the place of a session's row, if it is there
abbrev pub IsRowAt : ℕ → List Row → Option ℕ → Type 0
IsRowAt id rows None = (stage : Stage) → replaced id stage rows ≡ rows
IsRowAt id rows (Some at) = (at < length rows) × ((stage : Stage) → replaced id stage rows ≡ slice_set rows at (record { id = id; stage = stage }))

-- the place of a new row
abbrev pub IsPlaceFor : ℕ → List Row → ℕ → Type 0
IsPlaceFor id rows at = (at ≤ length rows) × ((stage : Stage) → with_new id stage rows ≡ insert rows at (record { id = id; stage = stage }))
