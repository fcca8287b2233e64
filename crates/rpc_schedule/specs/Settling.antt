-- What the loops do to a server.
use Rattle.std.specs.Prelude.{◌≡◌, ℕ, ◌<◌, ◌≤◌, true, false, List, ◌++◌, length, reverse, take, Some, None}
use mathlib.Core.List.{IsPrefix}
use Rattle.rpc_packet.specs.declared.owned.Packet.{Packet}
use Rattle.rpc_handlers.specs.HandlerRule.{HandlerRule}
use Rattle.rpc_journal.specs.declared.entry.TheConstants.{MAX_ENTRIES}
use Rattle.rpc_journal.specs.Calls.{runner_of}
use Rattle.rpc_journal.specs.Choice.{SomeReady}
use Rattle.rpc_journal.specs.Items.{arrivals, flush_count, input_ended, items_flushed, items_sent}
use Rattle.rpc_journal.specs.declared.item.Item.{Item}
use Rattle.rpc_journal.specs.Quiet.{is_settled}
use Rattle.rpc_journal.specs.Refusals.{is_full}
use Rattle.rpc_schedule.specs.Kept.{is_store_action}
use Rattle.rpc_schedule.specs.OneThread.{Handled, HasRoom, IsFullBeginning, IsOneThreadHistory, IsStoreStop}
use Rattle.rpc_schedule.specs.Schedule.{IsOver, NoneWaits, Reaches, Settles, Stage}
use Rattle.rpc_schedule.specs.Schedule.Stage.{running, flushing}
use Rattle.rpc_schedule.specs.Serving.{EndsWithPacket, Gives, HasHeard, Serving, deeds, is_idle}

-- no run is kept and no call runs, no more items were flushed than there are, and each Arrive and each Start had room
pub record IsOrderly (s : Serving) : Type 0 where
  pub unkept : s.kept ≡ None
  pub none_runs : (c : ℕ) → runner_of (deeds s) c ≡ None
  pub within : flush_count (deeds s) ≤ length (items_sent (deeds s))
  pub room : HasRoom s.table.entries

-- what no run and no flush changes
pub record Stays (old new : Serving) : Type 0 where
  pub setting : new.table.setting ≡ old.table.setting
  pub refused : new.refused ≡ old.refused
  pub arrived : arrivals new.table.entries ≡ arrivals old.table.entries
  pub input : input_ended (deeds new) ≡ input_ended (deeds old)
  pub longer : length old.table.entries ≤ length new.table.entries

abbrev pub LeadsTo : HandlerRule → Serving → Stage → Stage → Type 0
LeadsTo rule s stage now = Reaches rule s.table.setting stage now

-- where a call was ready, one ran below 1,000,000 entries
abbrev pub Grows : Serving → Serving → Type 0
Grows old new =
    SomeReady (deeds old) → (length old.table.entries < MAX_ENTRIES) × (length old.table.entries < length new.table.entries)

-- all ready calls ran
pub record RunsAll (rule : HandlerRule) (old new : Serving) : Type 0 where
  pub stays : Stays old new
  pub orderly : IsOrderly new
  pub same_items : items_flushed (deeds new) ≡ items_flushed (deeds old)
  pub leads : LeadsTo rule old (running old.table.entries) (flushing new.table.entries)
  pub grows : Grows old new

-- calls ran until the journal was full, with a call ready
pub record StopsFull (rule : HandlerRule) (old new : Serving) : Type 0 where
  pub stays : Stays old new
  pub orderly : IsOrderly new
  pub leads : LeadsTo rule old (running old.table.entries) (running new.table.entries)
  pub full : is_full new.table.entries ≡ true
  pub some_ready : SomeReady (deeds new)

-- From this stage on items were flushed, and these went out, up to a store action that was flushed and not made.
pub record StopsAtStore (rule : HandlerRule) (old : Serving) (start : Stage) (new : Serving) (items : List Item) : Type 0 where
  pub stays : Stays old new
  pub orderly : IsOrderly new
  pub before : Serving
  pub failed : Item
  pub same : before.table.setting ≡ old.table.setting
  pub leads : LeadsTo rule old start (flushing before.table.entries)
  pub gives : Gives before (Some failed) new
  pub action : is_store_action failed.call failed.act ≡ true
  pub items_are : items ≡ items_flushed (deeds before)

-- each item that waited was flushed
pub record FlushesAll (rule : HandlerRule) (old new : Serving) : Type 0 where
  pub stays : Stays old new
  pub orderly : IsOrderly new
  pub leads : LeadsTo rule old (flushing old.table.entries) (flushing new.table.entries)
  pub none_waits : NoneWaits (deeds new)

-- calls ran, and then each item that waited was flushed, once or more often
pub record RunsAndFlushes (rule : HandlerRule) (old new : Serving) : Type 0 where
  pub stays : Stays old new
  pub orderly : IsOrderly new
  pub leads : LeadsTo rule old (running old.table.entries) (flushing new.table.entries)
  pub none_waits : NoneWaits (deeds new)

-- nothing is left to do
pub record SettlesAll (rule : HandlerRule) (old new : Serving) : Type 0 where
  pub stays : Stays old new
  pub orderly : IsOrderly new
  pub idle : is_idle new ≡ true
  pub settles : Settles rule old.table.setting old.table.entries new.table.entries

-- each packet that arrived was handled, none was refused, and more input may come
pub record IsCalm (rule : HandlerRule) (s : Serving) : Type 0 where
  pub orderly : IsOrderly s
  pub accepts : s.refused ≡ None
  pub idle : is_idle s ≡ true
  pub unended : input_ended (deeds s) ≡ false
  pub over : IsOver s.table.setting s.table.entries
  pub handled : Handled rule s.table.setting (reverse (arrivals s.table.entries)) s.table.entries

-- all packets that arrived were handled, and then the end of the input; none was refused, and nothing is left to do
pub record IsDone (rule : HandlerRule) (s : Serving) : Type 0 where
  pub accepts : s.refused ≡ None
  pub history : IsOneThreadHistory rule s.table.setting (arrivals s.table.entries) s.table.entries
  pub room : HasRoom s.table.entries
  pub settled : is_settled (deeds s) ≡ true

-- the journal is full, and the history of the packets that were heard goes on with an Arrive or a Start
abbrev pub IsFullFor : HandlerRule → Serving → Type 0
IsFullFor rule s = (packets : List Packet) → HasHeard packets s → IsFullBeginning rule s.table.setting packets s.table.entries

-- a store action was not made, and the history of the packets that were heard has come to its Flush
abbrev pub IsStoreStopFor : HandlerRule → Serving → List Item → Type 0
IsStoreStopFor rule s items = (packets : List Packet) → HasHeard packets s → IsStoreStop rule s.table.setting packets s.table.entries items

-- how far a piece was fed before a server stopped: the last packet was heard with the last of the bytes fed
pub record StopsIn (heard : List ℕ → List Packet) (stood stands : List ℕ → Type 0) (piece : List ℕ) (s : Serving) : Type 0 where
  pub unended : input_ended (deeds s) ≡ false
  pub count : ℕ
  pub within : count ≤ length piece
  pub fed : (bytes : List ℕ) → stood bytes → stands (bytes ++ take count piece)
  pub last : (bytes : List ℕ) → stood bytes → EndsWithPacket heard (bytes ++ take count piece)

-- what feeding a piece does before the journal is full; the items are those flushed
pub record FillsWithin (rule : HandlerRule) (heard : List ℕ → List Packet) (stood stands : List ℕ → Type 0) (piece : List ℕ) (s : Serving) (items : List Item) : Type 0 where
  pub part : StopsIn heard stood stands piece s
  pub full : IsFullFor rule s
  pub items_are : items ≡ items_flushed (deeds s)

-- and before a store action isn't made
pub record FailsWithin (rule : HandlerRule) (heard : List ℕ → List Packet) (stood stands : List ℕ → Type 0) (piece : List ℕ) (s : Serving) (items : List Item) : Type 0 where
  pub part : StopsIn heard stood stands piece s
  pub stop : IsStoreStopFor rule s items

-- how far a piece was fed before a server broke off, and what had gone out by then
pub record BreaksWithin (stood stands : List ℕ → Type 0) (piece : List ℕ) (s : Serving) (items : List Item) : Type 0 where
  pub count : ℕ
  pub within : count ≤ length piece
  pub fed : (bytes : List ℕ) → stood bytes → stands (bytes ++ take count piece)
  pub sent : IsPrefix items (items_sent (deeds s))
