-- What a session did: its journal, the bytes that it read and wrote, and its store.
use Rattle.std.specs.Prelude.{◌≡◌, ℕ, ◌+◌, ◌<◌, ◌≤◌, ◌==◌, ◌&&◌, ◌||◌, nat_le, Bool, true, false, List, [], ◌∷◌, ◌++◌, length, Option, Some, is_some}
use Rattle.std.specs.List.{AllByRecursion}
use Rattle.std.specs.Io.KnownBytes.{Appends, Consumes}
use mathlib.Core.List.{IsPrefix}
use Rattle.link_io.specs.declared.why.Why.{Why}
use Rattle.link_io.specs.declared.why.Why.TheVariants.{Sink, Store, JournalLimit, Memory}
use Rattle.link_io.specs.Stored.{Stored}
use Rattle.rpc_ids.specs.declared.method.MethodRef.{MethodRef}
use Rattle.rpc_ids.specs.declared.method.Role.TheVariants.{Server}
use Rattle.rpc_handlers.specs.declared.event.Memo.{Memo}
use Rattle.rpc_handlers.specs.HandlerRule.{HandlerRule}
use Rattle.rpc_frames.specs.declared.counts.Counts.{Counts}
use Rattle.rpc_frames.specs.Heard.{counts_of, heard_packets}
use Rattle.rpc_frames.specs.Written.{frames_of_packets}
use Rattle.rpc_journal.specs.declared.entry.Entry.{Entry}
use Rattle.rpc_journal.specs.declared.entry.EntryKind.{EntryKind}
use Rattle.rpc_journal.specs.declared.entry.EntryKind.TheVariants.{Arrive, Start, Finish, Tick, Flush, EndIn, Halt}
use Rattle.rpc_journal.specs.declared.entry.TheConstants.{MAX_ENTRIES}
use Rattle.rpc_journal.specs.declared.item.Item.{Item}
use Rattle.rpc_journal.specs.declared.setting.Setting.{Setting}
use Rattle.rpc_journal.specs.History.{entry_by, history}
use Rattle.rpc_journal.specs.Items.{arrivals, halt_reason, items_sent, moments, packets_of}
use Rattle.rpc_journal.specs.Lawful.{IsLegal}
use Rattle.rpc_journal.specs.Quiet.{is_settled}
use Rattle.rpc_schedule.specs.declared.stream.TheConstants.{INPUT_LIMIT}
use Rattle.rpc_schedule.specs.Kept as store

-- what is fixed with the table of a session: a server's role, its channels and methods, and the seed of its maker
abbrev pub session_setting : List ℕ → List MethodRef → Memo → Setting
session_setting channels registry seed = record { role = Server; channels = channels; registry = registry; seed = seed }

-- a session halts its table for these reasons alone
abbrev pub is_halting : Why → Bool
is_halting Sink = true
is_halting Store = true
is_halting JournalLimit = true
is_halting Memory = true
is_halting _ = false

abbrev pub is_halted : Setting → List Entry → Bool
is_halted set h = is_some (halt_reason (history set h))

-- the seats that run handlers: the reader's, and those of the workers
abbrev pub runs_handlers : ℕ → ℕ → Bool
runs_handlers workers seat = (seat == 0) || (nat_le 2 seat && nat_le seat (workers + 1))

-- What a seat of a session adds: the reader's, 0, feeds the input, the pump's, 1, flushes and ticks, the reader's and the
-- workers' run handlers, and each may halt.
abbrev pub is_entry_of : ℕ → ℕ → EntryKind → Bool
is_entry_of workers seat (Arrive p) = seat == 0
is_entry_of workers seat EndIn = seat == 0
is_entry_of workers seat (Tick now) = seat == 1
is_entry_of workers seat Flush = seat == 1
is_entry_of workers seat (Start c) = runs_handlers workers seat
is_entry_of workers seat (Finish c a) = runs_handlers workers seat
is_entry_of workers seat (Halt why) = is_halting why
is_entry_of workers seat _ = false

abbrev pub AreOfSession : ℕ → List Entry → Type 0
AreOfSession workers h = AllByRecursion (λ e. is_entry_of workers e.seat e.kind ≡ true) h

-- a Halt for the journal's limit stands behind as many entries as a journal may have
abbrev pub AreLate : List Entry → Type 0
AreLate h = (k : ℕ) (front back : List Entry) → h ≡ front ++ entry_by k (Halt JournalLimit) ∷ back → MAX_ENTRIES ≤ length front

-- The journal of a session that ended for this reason, which is that of its Halt, where there is one.
pub record IsSessionHistory (rule : HandlerRule) (set : Setting) (workers : ℕ) (why : Why) (h : List Entry) : Type 0 where
  pub legal : IsLegal rule set h
  pub kinds : AreOfSession workers h
  pub late : AreLate h
  pub halts : is_halting why ≡ is_halted set h
  pub told : (reason : Why) → halt_reason (history set h) ≡ Some reason → why ≡ reason

-- the frames of the packets among these items, in order
abbrev pub wire : List Item → List ℕ
wire items = frames_of_packets (packets_of items)

-- What every session did, halted or not. Of the bytes read some beginning was fed, the packets in that arrived, in order, or a
-- beginning of them, and the counts are those of it. The items made are a beginning of those of the journal: the store has got
-- just their actions, and the link their frames, and behind them at most a part of the frame of the next item, which isn't all of it.
pub record Begins (set : Setting) (left_old left_new written_old written_new : Option (List ℕ)) (held_old held_new : Option Stored) (counts : Counts) (read done : ℕ) (items : List Item) (h : List Entry) : Type 0 where
  pub bytes : List ℕ
  pub fed : List ℕ
  pub taken : Consumes left_old left_new bytes
  pub count : length bytes ≡ read
  pub limit : read ≤ INPUT_LIMIT
  pub within : IsPrefix fed bytes
  pub arrived : IsPrefix (arrivals h) (heard_packets Server fed)
  pub heard : IsPrefix (arrivals h) (heard_packets Server bytes)
  pub counts_are : counts ≡ counts_of Server fed
  pub next : List Item
  pub part : List ℕ
  pub sent : IsPrefix (items ++ next) (items_sent (history set h))
  pub one : length next ≤ 1
  pub begun : IsPrefix part (wire next)
  pub unfinished : part ≡ wire next → part ≡ []
  pub written : Appends written_old written_new (wire items ++ part)
  pub stored : store.Holds items held_old held_new
  pub counted : done ≡ length items

-- What a session did that wasn't halted: the journal explains the bytes read, those written and the store. All packets heard in
-- the bytes arrived, all is settled, and all items were made.
pub record Explains (set : Setting) (left_old left_new written_old written_new : Option (List ℕ)) (held_old held_new : Option Stored) (counts : Counts) (read done : ℕ) (h : List Entry) : Type 0 where
  pub bytes : List ℕ
  pub taken : Consumes left_old left_new bytes
  pub count : length bytes ≡ read
  pub arrived : arrivals h ≡ heard_packets Server bytes
  pub counts_are : counts ≡ counts_of Server bytes
  pub settled : is_settled (history set h) ≡ true
  pub written : Appends written_old written_new (wire (items_sent (history set h)))
  pub stored : store.Holds (items_sent (history set h)) held_old held_new
  pub all : done ≡ length (items_sent (history set h))

-- each moment is at least 500 past the one before it, and the first past this one
abbrev pub AreSpaced : ℕ → List ℕ → Type 0
AreSpaced start [] = Unit {0}
AreSpaced start (t ∷ ts) = (start + 500 ≤ t) × AreSpaced t ts

abbrev pub last_from : ℕ → List ℕ → ℕ
last_from start [] = start
last_from start (t ∷ ts) = last_from t ts

-- Counted from this moment on no Tick was left out: the last moment of the clock is less than 500 past the last Tick, or past that
-- moment where there is none.
pub record LeavesNoneDue (began end : ℕ) (ticks : List ℕ) : Type 0 where
  pub spaced : AreSpaced began ticks
  pub none_due : end < last_from began ticks + 500

-- so it is unless this history is halted
pub record TicksInTime (set : Setting) (h : List Entry) (began end : ℕ) (ticks : List ℕ) : Type 0 where
  pub due : is_halted set h ≡ false → LeavesNoneDue began end ticks

-- the Ticks of a session, between the last moments of its clock at the start and at the end
pub record TicksBetween (start end : ℕ) (h : List Entry) : Type 0 where
  pub spaced : AreSpaced start (moments h)
  pub past : last_from start (moments h) ≤ end
