-- What each thread of a session adds to the journal, and what its pass knows between two calls of the table.
use Rattle.std.specs.Prelude.{◌≡◌, ◌⊎◌, ℕ, ◌<◌, ◌≤◌, Bool, true, false, List, [], ◌∷◌, ◌++◌, length, Option, Some, None}
use Rattle.std.specs.List.{AllByRecursion}
use Rattle.std.specs.Io.KnownBytes.{Consumes, IsAtEnd}
use mathlib.Core.List.{IsPrefix}
use Rattle.entry_lists.specs.Entries.{made_by}
use Rattle.link_io.specs.declared.reading.Ending.{Ending}
use Rattle.link_io.specs.declared.reading.Ending.TheVariants.{AtEnd, AtLimit, Failed}
use Rattle.link_io.specs.declared.why.Why.{Why}
use Rattle.link_io.specs.declared.why.Why.TheVariants.{JournalLimit, Memory}
use Rattle.turn_cell.specs.Passes.{IsSame, LockView, PassView}
use Rattle.rpc_ids.specs.declared.method.Role.TheVariants.{Server}
use Rattle.rpc_handlers.specs.HandlerRule.{HandlerRule}
use Rattle.rpc_frames.specs.Heard.{heard_packets}
use Rattle.rpc_frames.specs.Listening.{HasHeard, Listening}
use Rattle.rpc_journal.specs.declared.entry.Entry.{Entry}
use Rattle.rpc_journal.specs.declared.entry.EntryKind.{EntryKind}
use Rattle.rpc_journal.specs.declared.entry.EntryKind.TheVariants.{Arrive, Start, Finish, Tick, Flush, EndIn, Halt}
use Rattle.rpc_journal.specs.declared.entry.TheConstants.{MAX_ENTRIES}
use Rattle.rpc_journal.specs.declared.setting.Setting.{Setting}
use Rattle.rpc_journal.specs.History.{entry_by}
use Rattle.rpc_journal.specs.Items.{arrivals}
use Rattle.rpc_journal.specs.Lawful.{IsLegal}
use Rattle.rpc_journal.specs.Laws.{seat_of}
use Rattle.rpc_schedule.specs.declared.stream.TheConstants.{INPUT_LIMIT}
use Rattle.rpc_shared.specs.Steps.{IsOwn}
use Rattle.rpc_shared.specs.session.Sessions.{is_halted, is_halting}

-- what a contract sees of a pass of the table, and of the table
abbrev pub Seat : Type 0
Seat = PassView Entry Setting

abbrev pub Lock : Type 0
Lock = LockView Setting

-- all threads but the writer halt the table for want alone
abbrev pub is_want : Why → Bool
is_want JournalLimit = true
is_want Memory = true
is_want _ = false

-- a worker begins and ends runs, and halts
abbrev pub is_workers : EntryKind → Bool
is_workers (Start c) = true
is_workers (Finish c a) = true
is_workers (Halt why) = is_want why
is_workers _ = false

-- until the input ends the reader takes packets in, and does as a worker
abbrev pub is_feeding : EntryKind → Bool
is_feeding (Arrive p) = true
is_feeding (Start c) = true
is_feeding (Finish c a) = true
is_feeding (Halt why) = is_want why
is_feeding _ = false

-- the same with the end of the input
abbrev pub is_readers : EntryKind → Bool
is_readers (Arrive p) = true
is_readers EndIn = true
is_readers (Start c) = true
is_readers (Finish c a) = true
is_readers (Halt why) = is_want why
is_readers _ = false

-- the pump flushes, ticks and halts
abbrev pub is_pumps : EntryKind → Bool
is_pumps (Tick now) = true
is_pumps Flush = true
is_pumps (Halt why) = is_want why
is_pumps _ = false

-- the writer halts
abbrev pub is_stop : EntryKind → Bool
is_stop (Halt why) = is_halting why
is_stop _ = false

abbrev pub AreOf : (EntryKind → Bool) → List Entry → Type 0
AreOf test entries = AllByRecursion (λ e. test e.kind ≡ true) entries

-- a Halt by this seat for the journal's limit stands behind as many entries as a journal may have
abbrev pub IsLate : ℕ → List Entry → Type 0
IsLate k h = (front back : List Entry) → h ≡ front ++ entry_by k (Halt JournalLimit) ∷ back → MAX_ENTRIES ≤ length front

-- a pass between two calls: it has seen a legal history, and in it all its own entries
pub record Stands (rule : HandlerRule) (r : Lock) (p : Seat) : Type 0 where
  pub own : IsOwn r p
  pub legal : IsLegal rule r.base p.view.known.seen
  pub shown : made_by seat_of p.view.known.number p.view.known.seen ≡ p.view.known.mine
  pub late : IsLate p.view.known.number p.view.known.seen

-- the pass went on, and added entries of these kinds alone
pub record Adds (rule : HandlerRule) (r : Lock) (test : EntryKind → Bool) (p q : Seat) : Type 0 where
  pub same : IsSame p q
  pub own : IsOwn r q
  pub legal : IsLegal rule r.base q.view.known.seen
  pub shown : made_by seat_of p.view.known.number q.view.known.seen ≡ q.view.known.mine
  pub begins : IsPrefix p.view.known.seen q.view.known.seen
  pub added : List Entry
  pub mine : q.view.known.mine ≡ p.view.known.mine ++ added
  pub kinds : AreOf test added
  pub late : IsLate p.view.known.number p.view.known.seen → IsLate p.view.known.number q.view.known.seen

-- the pass of a worker
pub record Worker (rule : HandlerRule) (r : Lock) (p : Seat) : Type 0 where
  pub stands : Stands rule r p
  pub kinds : AreOf is_workers p.view.known.mine

abbrev pub AreWorkers : HandlerRule → Lock → List Seat → Type 0
AreWorkers rule r passes = AllByRecursion (Worker rule r) passes

-- each pass has worked, in its place
abbrev pub AllWorked : HandlerRule → Lock → List Seat → List Seat → Type 0
AllWorked rule r [] [] = Unit {0}
AllWorked rule r [] (q ∷ qs) = ⊥
AllWorked rule r (p ∷ ps) [] = ⊥
AllWorked rule r (p ∷ ps) (q ∷ qs) = (Worker rule r q × IsSame p q) × AllWorked rule r ps qs

-- the pass of the reader, before the end of the input
pub record Reader (rule : HandlerRule) (r : Lock) (p : Seat) : Type 0 where
  pub stands : Stands rule r p
  pub number : p.view.known.number ≡ 0
  pub kinds : AreOf is_feeding p.view.known.mine

-- and behind it
pub record ReaderEnded (rule : HandlerRule) (r : Lock) (p : Seat) : Type 0 where
  pub stands : Stands rule r p
  pub number : p.view.known.number ≡ 0
  pub kinds : AreOf is_readers p.view.known.mine

-- the reader's listener has heard these bytes, and the packets in them arrived
pub record Fed (l : Listening) (p : Seat) (bytes : List ℕ) : Type 0 where
  pub role : l.role ≡ Server
  pub listener : HasHeard l bytes
  pub arrived : arrivals p.view.known.mine ≡ heard_packets Server bytes

-- it has heard a beginning of these bytes, and what arrived is a beginning of the packets in that
pub record Cut (l : Listening) (p : Seat) (bytes : List ℕ) : Type 0 where
  pub fed : List ℕ
  pub within : IsPrefix fed bytes
  pub role : l.role ≡ Server
  pub listener : HasHeard l fed
  pub arrived : IsPrefix (arrivals p.view.known.mine) (heard_packets Server fed)

-- What the reader took from its source, and what became of it: all of it was fed, or the table is halted. Without an ending
-- the reader stopped at a halt.
pub record HasRead (set : Setting) (left_old left_new : Option (List ℕ)) (ending : Option Ending) (read : ℕ) (l : Listening) (p : Seat) : Type 0 where
  pub bytes : List ℕ
  pub taken : Consumes left_old left_new bytes
  pub count : length bytes ≡ read
  pub within : read ≤ INPUT_LIMIT
  pub at_end : ending ≡ Some AtEnd → IsAtEnd left_new
  pub at_limit : ending ≡ Some AtLimit → read ≡ INPUT_LIMIT
  pub below : (ending ≡ Some AtEnd) ⊎ (ending ≡ Some Failed) → read < INPUT_LIMIT
  pub cut : Cut l p bytes
  pub cause : Fed l p bytes ⊎ (is_halted set p.view.known.seen ≡ true)
  pub stopped : ending ≡ None → is_halted set p.view.known.seen ≡ true
