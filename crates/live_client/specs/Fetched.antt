-- What the end of a transfer tells: of the clock, and of what was fetched.
use Rattle.std.specs.Prelude.{◌≡◌, ◌⊎◌, ◌+◌, ◌≤◌, ℕ, not, false, List, [], ◌∷◌, ◌++◌, filter, map, take, drop, All, Option, Some, unwrap_or}
use Rattle.std.specs.List.{concat}
use Rattle.link_io.specs.Resources.{found}
use Rattle.link_io.specs.Stored.{Stored}
use Rattle.rpc_ids.specs.declared.method.MethodRef.{MethodRef}
use Rattle.rpc_ids.specs.declared.status.Status.TheVariants.{Okay, DeadlineExceeded}
use Rattle.rpc_handlers.specs.declared.answer.Out.{Out}
use Rattle.rpc_handlers.specs.declared.answer.Out.TheVariants.{Begin, Append, Commit}
use Rattle.rpc_handlers.specs.declared.event.Event.{Event}
use Rattle.transfer_base.specs.PieceLists.{IsPartOf, Joins}
use Rattle.rpc_journal.specs.History.{history}
use Rattle.rpc_journal.specs.Items.{items_sent}
use Rattle.rpc_schedule.specs.Kept as store
use Rattle.rpc_shared.specs.session.Sessions.{is_halted}
use Rattle.live_client.specs.declared.ask.Live.{Live}
use Rattle.live_client.specs.declared.ask.LiveAsk.{LiveAsk}
use Rattle.live_client.specs.declared.ask.LiveAsk.TheVariants.{Get}
use Rattle.live_client.specs.Ask.{is_call, live_setting, method_asked, read_method}
use Rattle.live_client.specs.Histories.{events_run, is_spoken, says_of}
use Rattle.live_client.specs.Live.{AskRan, IsLiveHistory}
use Rattle.live_client.specs.asks.Ends.{EndsCall, IsTold, TellsEnd, pieces_in}

-- the store actions among what was said
abbrev pub deeds_of : List Out → List Out
deeds_of outs = filter (λ out. not (is_spoken out)) outs

-- all that was done to the store in session 1: the work on a resource begins at an offset, these bytes are added, and it is committed
abbrev pub work_on : ℕ → ℕ → List (List ℕ) → List Out
work_on resource from added = Begin 1 resource from ∷ (map (λ bytes. Append 1 bytes) added ++ Commit 1 ∷ [])

-- A RESOURCE WAS FETCHED from an offset on: its bytes join, of pieces that came in these events
pub record IsFetched (resource from : ℕ) (events : List Event) (says : List Out) : Type 0 where
  pub added : List (List ℕ)
  pub deeds : deeds_of says ≡ work_on resource from added
  pub joins : Joins (pieces_in 1 events) from (concat added)

-- the events of the call that were run
abbrev pub run_of : MethodRef → Live → List Event
run_of method l = events_run (live_setting method) l.journal.entries 0

-- A transfer ends with DEADLINE_EXCEEDED only where the clock went on by 8,000 ms, the board told that end, or the call ended so.
abbrev pub DeadlinesTakeTime : Type 0
DeadlinesTakeTime =
    (ask : LiveAsk) (start end : ℕ) (l : Live) → is_call ask ≡ false → AskRan ask start end l → l.ended ≡ Some DeadlineExceeded
    → (start + 8000 ≤ end) ⊎ (IsTold (TellsEnd 1 DeadlineExceeded) (run_of (method_asked ask) l) ⊎ IsTold (EndsCall DeadlineExceeded) (run_of (method_asked ask) l))

-- what is known of a fetch that no halt ended, and that ended with OK
pub record FetchedWell (resource offset start end : ℕ) (l : Live) : Type 0 where
  pub history : IsLiveHistory (Get resource offset) l.why l.journal.entries
  pub ran : AskRan (Get resource offset) start end l
  pub calm : is_halted (live_setting read_method) l.journal.entries ≡ false
  pub okay : l.ended ≡ Some Okay

-- It has fetched the resource, or the board told OK.
abbrev pub FetchesAreWhole : Type 0
FetchesAreWhole =
    (resource offset start end : ℕ) (l : Live) → FetchedWell resource offset start end l
    → IsFetched resource l.from (run_of read_method l) (says_of l.journal.entries) ⊎ IsTold (TellsEnd 1 Okay) (run_of read_method l)

-- AN HONEST BOARD: each piece of the session that it sends is of this content, and it tells no OK of its own
pub record IsHonest (content : List ℕ) (events : List Event) : Type 0 where
  pub pieces : All (IsPartOf content) (pieces_in 1 events)
  pub no_okay : IsTold (TellsEnd 1 Okay) events → ⊥

-- The store has the resource then: what was left of it before the offset, and these bytes behind.
abbrev pub HasStored : ℕ → ℕ → List ℕ → Stored → Stored → Type 0
HasStored resource from bytes before after = found resource after.full ≡ Some (take from (unwrap_or (found resource before.left) []) ++ bytes)

-- OVER AN HONEST BOARD a store that tells what it holds has all of the content from the offset on, once all items are made.
abbrev pub FetchesAreStored : Type 0
FetchesAreStored =
    (resource offset start end : ℕ) (l : Live) → FetchedWell resource offset start end l → (content : List ℕ) → IsHonest content (run_of read_method l)
    → (before : Stored) (held : Option Stored) → store.Holds (items_sent (history (live_setting read_method) l.journal.entries)) (Some before) held
    → (after : Stored) × (held ≡ Some after) × HasStored resource l.from (drop l.from content) before after
