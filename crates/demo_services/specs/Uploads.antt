-- What a call of Write does with the store over all events that it takes.
use Rattle.std.specs.Prelude.{◌≡◌, ℕ, false, List, [], ◌∷◌, ◌++◌, Result, Ok, Err, codes}
use Rattle.std.specs.List.{AllByRecursion}
use Rattle.rpc_ids.specs.declared.method.MethodRef.{MethodRef}
use Rattle.rpc_handlers.specs.declared.answer.Out.{Out}
use Rattle.rpc_handlers.specs.declared.answer.Out.TheVariants.{Say}
use Rattle.rpc_handlers.specs.declared.event.Event.{Event}
use Rattle.rpc_handlers.specs.declared.event.Event.TheVariants.{Message, Completion, Ended, Tick}
use Rattle.link_io.specs.declared.Shelf.{Shelf}
use Rattle.transfer_chunk.specs.Chunk.{Chunk}
use Rattle.transfer_chunk.specs.Reading.{chunk_of}
use Rattle.transfer_resume.specs.declared.side.Side.TheVariants.{Write}
use Rattle.transfer_resume.specs.Book.{Outgoing, new_book, spelled_all}
use Rattle.transfer_resume.specs.Uploads.{Comes, chunk_comes, time_comes, call_ends, came, deeds_of, outs_over, IsUpload}
use Rattle.demo_services.specs.DemoRule.{first}
use Rattle.demo_services.specs.Laws.{said}
use Rattle.demo_services.specs.Methods.{is_transfer, transfer_method}
use Rattle.demo_services.specs.Transfer.{demo_seed}

-- what comes to the sessions of a call with an event
abbrev pub comes_in : Result Chunk ℕ → List Comes
comes_in (Err at) = []
comes_in (Ok c) = chunk_comes c ∷ []

abbrev pub comes_with : Event → List Comes
comes_with (Message payload) = comes_in (chunk_of payload)
comes_with Completion = call_ends ∷ []
comes_with (Ended status) = call_ends ∷ []
comes_with (Tick now) = time_comes now ∷ []
comes_with _ = []

abbrev pub all_comes : List Event → List Comes
all_comes [] = []
all_comes (ev ∷ evs) = comes_with ev ++ all_comes evs

-- all that a call of Write says and does
abbrev pub written : Shelf → ℕ → ℕ → List Event → List Outgoing
written shelf window chunk events = outs_over (new_book Write shelf window chunk) (all_comes events)

pub record WritesWell (shelf : Shelf) (window chunk : ℕ) (events : List Event) (session : ℕ) : Type 0 where
  -- its answers have just that, in order
  pub says : said (first (demo_seed shelf window chunk) (transfer_method (codes "Write"))) events ≡ spelled_all (written shelf window chunk events)
  -- each session begins at most once, before all else, and what it makes whole joins, from there on, of the data that came
  pub upload : IsUpload (came session (all_comes events)) (deeds_of session (written shelf window chunk events))

-- over any events
abbrev pub UploadsJoin : Type 0
UploadsJoin = (shelf : Shelf) (window chunk : ℕ) (events : List Event) (session : ℕ) → WritesWell shelf window chunk events session

-- a message, and no store action
abbrev pub IsMessage : Out → Type 0
IsMessage out = (payload : List ℕ) × (out ≡ Say payload)

-- over any events a call of a method other than Write has no store action
abbrev pub OthersStoreNothing : Type 0
OthersStoreNothing =
    (shelf : Shelf) (window chunk : ℕ) (m : MethodRef) (events : List Event)
    → is_transfer (codes "Write") m ≡ false → AllByRecursion IsMessage (said (first (demo_seed shelf window chunk) m) events)
