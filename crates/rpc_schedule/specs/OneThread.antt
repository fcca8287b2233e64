-- The history of a server on one thread that hears given packets, and the beginning of it that fills the journal.
use Rattle.std.specs.Prelude.{◌≡◌, ℕ, ◌<◌, ◌==◌, Bool, true, false, List, [], ◌∷◌, ◌++◌, reverse, slice_get, ◌⊎◌, Some, IsTrue}
use Rattle.std.specs.List.{AllByRecursion}
use mathlib.Core.List.{IsPrefix}
use Rattle.rpc_packet.specs.declared.owned.Packet.{Packet}
use Rattle.rpc_handlers.specs.HandlerRule.{HandlerRule}
use Rattle.rpc_journal.specs.declared.entry.Entry.{Entry}
use Rattle.rpc_journal.specs.declared.entry.TheConstants.{MAX_ENTRIES}
use Rattle.rpc_journal.specs.declared.entry.EntryKind.{EntryKind}
use Rattle.rpc_journal.specs.declared.entry.EntryKind.TheVariants.{Arrive, Start, Finish, Flush, EndIn}
use Rattle.rpc_journal.specs.declared.setting.Setting.{Setting}
use Rattle.rpc_journal.specs.Choice.{SomeReady}
use Rattle.rpc_journal.specs.History.{history, adding}
use Rattle.rpc_journal.specs.declared.item.Item.{Item}
use Rattle.rpc_journal.specs.Items.{arrivals, items_flushed}
use Rattle.rpc_journal.specs.Refusals.{is_full}
use Rattle.rpc_schedule.specs.Kept.{is_store_action}
use Rattle.rpc_schedule.specs.Schedule.{Reaches, Settles, Stage, flush_seat, input_seat, next_item, run_seat}
use Rattle.rpc_schedule.specs.Schedule.Stage.{running, flushing}

-- each of the packets, the newest first, arrived and was settled
abbrev pub Handled : HandlerRule → Setting → List Packet → List Entry → Type 0
Handled rule set [] h = h ≡ []
Handled rule set (p ∷ earlier) h =
    (before : List Entry) × Handled rule set earlier before × Settles rule set (adding before input_seat (Arrive p)) h

-- The history of one thread: each of the packets, in order, arrives and is settled, and then the end of the input.
pub record IsOneThreadHistory (rule : HandlerRule) (set : Setting) (packets : List Packet) (h : List Entry) : Type 0 where
  pub before : List Entry
  pub handled : Handled rule set (reverse packets) before
  pub settled : Settles rule set (adding before input_seat EndIn) h

-- packets have one such history, where the handlers' type is ruled
abbrev pub OneHistory : Type 0
OneHistory =
    (rule : HandlerRule) (set : Setting) (packets : List Packet) (a b : List Entry) → IsTrue rule.ruled
    → IsOneThreadHistory rule set packets a → IsOneThreadHistory rule set packets b → a ≡ b

-- each list of packets has one
abbrev pub HistoryIsThere : Type 0
HistoryIsThere = (rule : HandlerRule) (set : Setting) (packets : List Packet) → (h : List Entry) × IsOneThreadHistory rule set packets h

-- this entry opens the last settling of these packets: the newest one arrives after the earlier ones were handled, or the
-- input ends after all were
abbrev pub OpensLast : HandlerRule → Setting → List Packet → List Entry → EntryKind → Type 0
OpensLast rule set packets h (Arrive p) =
    (earlier : List Packet) × (packets ≡ earlier ++ p ∷ []) × Handled rule set (reverse earlier) h
OpensLast rule set packets h EndIn = Handled rule set (reverse packets) h
OpensLast rule set packets h _ = ⊥

-- the last settling of these packets has come to this stage
pub record IsUnderway (rule : HandlerRule) (set : Setting) (packets : List Packet) (stage : Stage) : Type 0 where
  pub before : List Entry
  pub opening : EntryKind
  pub opens : OpensLast rule set packets before opening
  pub reaches : Reaches rule set (running (adding before input_seat opening)) stage

-- all packets but the last were handled, and its Arrive comes next
pub record AwaitsArrive (rule : HandlerRule) (set : Setting) (packets : List Packet) (h : List Entry) : Type 0 where
  pub earlier : List Packet
  pub last : Packet
  pub packets_are : packets ≡ earlier ++ last ∷ []
  pub handled : Handled rule set (reverse earlier) h

-- the Start of a ready call comes next
pub record AwaitsStart (rule : HandlerRule) (set : Setting) (packets : List Packet) (h : List Entry) : Type 0 where
  pub underway : IsUnderway rule set packets (running h)
  pub some_ready : SomeReady (history set h)

abbrev pub takes_room : EntryKind → Bool
takes_room (Arrive p) = true
takes_room (Start c) = true
takes_room _ = false

-- each Arrive and each Start stands at a place below 1,000,000
abbrev pub HasRoom : List Entry → Type 0
HasRoom h = (at : ℕ) (e : Entry) → slice_get h at ≡ Some e → takes_room e.kind ≡ true → at < MAX_ENTRIES

-- of the history of these packets, the shortest beginning that has 1,000,000 entries or more and that an Arrive or a
-- Start follows
pub record IsFullBeginning (rule : HandlerRule) (set : Setting) (packets : List Packet) (h : List Entry) : Type 0 where
  pub full : is_full h ≡ true
  pub room : HasRoom h
  pub next : AwaitsArrive rule set packets h ⊎ AwaitsStart rule set packets h

-- Of the history of these packets, the beginning that ends with the Flush of a store action, which was not made. These
-- items were flushed before it.
pub record IsStoreStop (rule : HandlerRule) (set : Setting) (packets : List Packet) (h : List Entry) (items : List Item) : Type 0 where
  pub room : HasRoom h
  pub before : List Entry
  pub failed : Item
  pub underway : IsUnderway rule set packets (flushing before)
  pub waits : next_item (history set before) ≡ Some failed
  pub action : is_store_action failed.call failed.act ≡ true
  pub adds : h ≡ adding before flush_seat Flush
  pub items_are : items ≡ items_flushed (history set before)

-- each is a beginning of that history, where the handlers' type is ruled
pub record StopsBegin : Type 0 where
  pub full : (rule : HandlerRule) (set : Setting) (packets : List Packet) (h whole : List Entry) → IsTrue rule.ruled
      → IsFullBeginning rule set packets h → IsOneThreadHistory rule set packets whole → IsPrefix h whole
  pub store : (rule : HandlerRule) (set : Setting) (packets : List Packet) (h whole : List Entry) (items : List Item) → IsTrue rule.ruled
      → IsStoreStop rule set packets h items → IsOneThreadHistory rule set packets whole → IsPrefix h whole

-- what a server on one thread adds: seat 0 an Arrive or the EndIn, seat 1 a Flush, seat 2 a Start or a Finish
abbrev pub is_of_one_thread : ℕ → EntryKind → Bool
is_of_one_thread seat (Arrive p) = seat == input_seat
is_of_one_thread seat EndIn = seat == input_seat
is_of_one_thread seat Flush = seat == flush_seat
is_of_one_thread seat (Start c) = seat == run_seat
is_of_one_thread seat (Finish c answer) = seat == run_seat
is_of_one_thread seat _ = false

-- each of these is such an entry: none is a Cancel, a Replace, a Tick, a Halt or a Close
abbrev pub AreOfOneThread : List Entry → Type 0
AreOfOneThread h = AllByRecursion (λ e. is_of_one_thread e.seat e.kind ≡ true) h

-- a history of one thread, and a beginning of one where a server stopped, have such entries alone
pub record OnlyOneThreads : Type 0 where
  pub whole : (rule : HandlerRule) (set : Setting) (packets : List Packet) (h : List Entry) → IsOneThreadHistory rule set packets h
      → AreOfOneThread h
  pub full : (rule : HandlerRule) (set : Setting) (packets : List Packet) (h : List Entry) → IsFullBeginning rule set packets h
      → AreOfOneThread h
  pub store : (rule : HandlerRule) (set : Setting) (packets : List Packet) (h : List Entry) (items : List Item) → IsStoreStop rule set packets h items
      → AreOfOneThread h

-- the packets of a history of one thread arrived in it, and those that arrived in a beginning where a server stopped
-- begin them
pub record ArrivalsOfOneThread : Type 0 where
  pub whole : (rule : HandlerRule) (set : Setting) (packets : List Packet) (h : List Entry) → IsOneThreadHistory rule set packets h → arrivals h ≡ packets
  pub full : (rule : HandlerRule) (set : Setting) (packets : List Packet) (h : List Entry) → IsFullBeginning rule set packets h → IsPrefix (arrivals h) packets
  pub store : (rule : HandlerRule) (set : Setting) (packets : List Packet) (h : List Entry) (items : List Item) → IsStoreStop rule set packets h items
      → IsPrefix (arrivals h) packets
