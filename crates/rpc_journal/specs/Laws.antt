-- What holds of every history.
use Rattle.std.specs.Prelude.{◌≡◌, ◌≢◌, ℕ, ◌≤◌, Bool, true, false, ◌&&◌, List, [], ◌∷◌, ◌++◌, length, count_by, ◌⊎◌, Option, Some, None, is_some}
use Rattle.std.specs.List.{AllByRecursion}
use mathlib.Core.List.{IsPrefix}
use Rattle.entry_lists.specs.Entries.{made_by}
use Rattle.rpc_handlers.specs.HandlerRule.{HandlerRule}
use Rattle.link_io.specs.declared.why.Why.{Why}
use Rattle.rpc_packet.specs.declared.owned.Packet.{Packet}
use Rattle.rpc_journal.specs.declared.entry.Entry.{Entry}
use Rattle.rpc_journal.specs.declared.entry.EntryKind.{EntryKind}
use Rattle.rpc_journal.specs.declared.entry.EntryKind.TheVariants.{Arrive, Start, Finish, Tick, Flush, EndIn, Halt}
use Rattle.rpc_journal.specs.declared.item.Act.{Act}
use Rattle.rpc_journal.specs.declared.item.Act.TheVariants.{Send}
use Rattle.rpc_journal.specs.declared.item.Item.{Item}
use Rattle.rpc_journal.specs.declared.setting.Setting.{Setting}
use Rattle.rpc_journal.specs.Effect.{Deed}
use Rattle.rpc_journal.specs.Calls.{ends_of, has_end, is_cancelled, is_start_of, is_finish_of}
use Rattle.rpc_journal.specs.Items.{arrivals, ends_input, flushes, flush_count, halt_reason, input_ended, is_for, items_sent, items_flushed, moments, reason_of}
use Rattle.rpc_journal.specs.Queues.{is_ended, messages_waiting, waiting_of}
use Rattle.rpc_journal.specs.Quiet.{is_quiet, is_settled}
use Rattle.rpc_journal.specs.History.{history}
use Rattle.rpc_journal.specs.Lawful.{IsLawful, IsLegal, full_queue}
use Rattle.rpc_journal.specs.Runs.{Run, IsRunning}
use Rattle.rpc_journal.specs.Conditions.{IsCall}

-- the seat that made an entry
abbrev pub seat_of : Entry → ℕ
seat_of e = e.seat

-- a beginning of a lawful history is lawful
abbrev pub BeginningIsLawful : Type 0
BeginningIsLawful = (set : Setting) (h all : List Entry) → IsPrefix h all → IsLawful set all → IsLawful set h

-- a beginning of a legal history is legal
abbrev pub BeginningIsLegal : Type 0
BeginningIsLegal = (rule : HandlerRule) (set : Setting) (h all : List Entry) → IsPrefix h all → IsLegal rule set all → IsLegal rule set h

-- each call has at most one end
abbrev pub EndsOnce : Type 0
EndsOnce = (set : Setting) (h : List Entry) (c : ℕ) → length (ends_of (history set h) c) ≤ 1

abbrev pub is_send : Act → Bool
is_send (Send p) = true
is_send _ = false

-- the item is a packet of call c
abbrev pub is_packet_for : ℕ → Item → Bool
is_packet_for c item = is_for c item.call && is_send item.act

abbrev pub NoPacketFor : ℕ → List Item → Type 0
NoPacketFor c items = AllByRecursion (λ item. is_packet_for c item ≡ false) items

-- the later history has the items of the earlier one, and then others without a packet of c
pub record SaysNoMoreOf (c : ℕ) (earlier later : List Item) : Type 0 where
  pub added : List Item
  pub later_is : later ≡ earlier ++ added
  pub no_packet : NoPacketFor c added

-- no packet of a call is added after the entry that closes it
abbrev pub NoPacketAfterEnd : Type 0
NoPacketAfterEnd =
    (set : Setting) (h more : List Entry) (c : ℕ) → IsLawful set (h ++ more) → has_end (history set h) c ≡ true
    → SaysNoMoreOf c (items_sent (history set h)) (items_sent (history set (h ++ more)))

-- none of these entries begins or ends a run of c
abbrev pub HasNoRunOf : ℕ → List Entry → Type 0
HasNoRunOf c entries = AllByRecursion (λ e. (is_start_of c e.kind ≡ false) × (is_finish_of c e.kind ≡ false)) entries

pub record StaysQuiet (set : Setting) (c : ℕ) (h more : List Entry) : Type 0 where
  pub quiet : is_quiet (history set (h ++ more)) c ≡ true
  pub no_run : HasNoRunOf c more

-- from a history in which c is quiet no lawful history goes on with a Start or a Finish of c, and c stays quiet
abbrev pub QuietForGood : Type 0
QuietForGood =
    (set : Setting) (h more : List Entry) (c : ℕ) → IsLawful set (h ++ more) → is_quiet (history set h) c ≡ true
    → StaysQuiet set c h more

-- no entry of another seat ends a run, and its event and the state before it stay
abbrev pub RunStands : Type 0
RunStands =
    (rule : HandlerRule) (set : Setting) (h more : List Entry) (run : Run) → IsLawful set (h ++ more)
    → AllByRecursion (λ e. seat_of e ≢ run.seat) more → IsRunning rule set h run → IsRunning rule set (h ++ more) run

-- the items of a beginning are a beginning of the items, and so are those that were flushed
abbrev pub ItemsBegin : Type 0
ItemsBegin = (set : Setting) (h more : List Entry) → IsPrefix (items_sent (history set h)) (items_sent (history set (h ++ more)))

abbrev pub FlushedBegin : Type 0
FlushedBegin = (set : Setting) (h more : List Entry) → IsPrefix (items_flushed (history set h)) (items_flushed (history set (h ++ more)))

-- the arrivals are those of seat 0's entries, and the flushes those of seat 1's
abbrev pub ArrivalsOfSeat : Type 0
ArrivalsOfSeat = (set : Setting) (h : List Entry) → IsLawful set h → arrivals h ≡ arrivals (made_by seat_of 0 h)

abbrev pub FlushesOfSeat : Type 0
FlushesOfSeat = (set : Setting) (h : List Entry) → IsLawful set h → flushes h ≡ flushes (made_by seat_of 1 h)

-- there are as many flushed items as Flush entries
abbrev pub FlushesCount : Type 0
FlushesCount = (set : Setting) (h : List Entry) → flush_count (history set h) ≡ flushes h

-- a call stays there
abbrev pub CallStays : Type 0
CallStays = (set : Setting) (h more : List Entry) (c : ℕ) → IsCall set h c → IsCall set (h ++ more) c

-- the moments of Tick are those of seat 1's entries, and the EndIn is by seat 0
abbrev pub MomentsOfSeat : Type 0
MomentsOfSeat = (set : Setting) (h : List Entry) → IsLawful set h → moments h ≡ moments (made_by seat_of 1 h)

abbrev pub EndInOfSeat : Type 0
EndInOfSeat = (set : Setting) (h : List Entry) → IsLawful set h → input_ended (history set h) ≡ ends_input (made_by seat_of 0 h)

-- a halted history stays halted, for the reason of its Halt
abbrev pub HaltStays : Type 0
HaltStays =
    (set : Setting) (h more : List Entry) (why : Why) → IsLawful set (h ++ more) → halt_reason (history set h) ≡ Some why
    → halt_reason (history set (h ++ more)) ≡ Some why

-- no event waits for a cancelled call
abbrev pub NoneWaitsForCancelled : Type 0
NoneWaitsForCancelled =
    (set : Setting) (h : List Entry) (c : ℕ) → IsLawful set h → is_cancelled (history set h) c ≡ true → waiting_of (history set h) c ≡ []

-- the call whose queue is full is there
abbrev pub FullQueueIsKnown : Type 0
FullQueueIsKnown = (set : Setting) (h : List Entry) (p : Packet) (c : ℕ) → full_queue set (history set h) p ≡ Some c → IsCall set h c

-- what a table adds that only answers its peer: it opens, cancels and closes nothing of its own
abbrev pub is_serving : EntryKind → Bool
is_serving (Arrive p) = true
is_serving (Start c) = true
is_serving (Finish c a) = true
is_serving (Tick now) = true
is_serving Flush = true
is_serving EndIn = true
is_serving (Halt why) = true
is_serving _ = false

-- a settled history goes on with such entries by a Halt or one of seat 1
abbrev pub SettledNext : Type 0
SettledNext =
    (set : Setting) (h : List Entry) (e : Entry) → IsLawful set (h ++ e ∷ []) → is_settled (history set h) ≡ true → is_serving e.kind ≡ true
    → (seat_of e ≡ 1) ⊎ (is_some (reason_of e.kind) ≡ true)

-- and without either it doesn't go on
abbrev pub SettledEnds : Type 0
SettledEnds =
    (set : Setting) (h more : List Entry) → IsLawful set (h ++ more) → is_settled (history set h) ≡ true
    → AllByRecursion (λ e. is_serving e.kind ≡ true) more → halt_reason (history set (h ++ more)) ≡ None → made_by seat_of 1 more ≡ []
    → more ≡ []

-- how many events of its end wait for c
abbrev pub ends_waiting : List Deed → ℕ → ℕ
ends_waiting ds c = count_by (λ w. is_ended w.event) (waiting_of ds c)

-- at most 64 events other than Ended, and one Ended, wait for c
pub record FewWait (ds : List Deed) (c : ℕ) : Type 0 where
  pub messages : messages_waiting ds c ≤ 64
  pub ends : ends_waiting ds c ≤ 1

abbrev pub FewAlwaysWait : Type 0
FewAlwaysWait = (set : Setting) (h : List Entry) (c : ℕ) → IsLawful set h → FewWait (history set h) c
