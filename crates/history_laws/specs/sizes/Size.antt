-- How many entries the history of one thread can have, by the packets that arrive in it.
use Rattle.std.specs.Prelude.{◌≡◌, ℕ, ◌+◌, ◌≤◌, Bool, true, List, length, sum_by, Some, is_some, IsTrue, if◌then◌else◌}
use Rattle.std.specs.List.{AllByRecursion}
use Rattle.rpc_ids.specs.declared.method.MethodRef.{MethodRef}
use Rattle.rpc_ids.specs.declared.method.Role.TheVariants.{Server}
use Rattle.rpc_ids.specs.declared.status.Status.TheVariants.{Cancelled, Unavailable}
use Rattle.rpc_ids.specs.Status.{status_of}
use Rattle.rpc_packet.specs.declared.owned.Packet.{Packet}
use Rattle.rpc_packet.specs.declared.packet_type.PacketType.{PacketType}
use Rattle.rpc_packet.specs.declared.packet_type.PacketType.TheVariants.{Request, ClientStream, ClientError, Completion}
use Rattle.rpc_handlers.specs.declared.answer.Answer.{Answer}
use Rattle.rpc_handlers.specs.declared.event.Event.{Event}
use Rattle.rpc_handlers.specs.declared.event.Event.TheVariants.{Ended, Message, Request as Requested, Completion as Completed}
use Rattle.rpc_handlers.specs.declared.event.Memo.{Memo}
use Rattle.rpc_handlers.specs.HandlerRule.{HandlerRule}
use Rattle.rpc_journal.specs.declared.entry.Entry.{Entry}
use Rattle.rpc_journal.specs.declared.setting.Setting.{Setting}
use Rattle.rpc_journal.specs.Rows.{method_named}
use Rattle.rpc_schedule.specs.OneThread.{IsFullBeginning, IsOneThreadHistory}

-- how many items an answer can add: its own, and the response of its end
abbrev pub answer_items : Answer → ℕ
answer_items a = length a.items + (if is_some a.end then 1 else 0)

-- in a good state, what the rule answers to an event adds at most so many items; and no event leads out of the good states
pub record AnswersWithin (rule : HandlerRule) (good : Memo → Bool) (most : Event → ℕ) : Type 0 where
  pub within : (state : Memo) (event : Event) → good state ≡ true → answer_items (rule.answer state event) ≤ most event
  pub stays : (state : Memo) (event : Event) → good state ≡ true → good (rule.next state event) ≡ true

-- the methods that these packets name begin their calls in good states
abbrev pub BeginGood : HandlerRule → Setting → (Memo → Bool) → List Packet → Type 0
BeginGood rule set good packets =
    AllByRecursion (λ p. (m : MethodRef) → method_named set p.name ≡ Some m → good (rule.first set.seed m) ≡ true) packets

-- the entries of the run that takes an event: its Start, its Finish, and the Flush of each of its items
abbrev pub run_entries : (Event → ℕ) → Event → ℕ
run_entries most event = 2 + most event

-- What an arrival of this type brings beside its Arrive: the runs of the events that it puts, or the Flush of a reply. A
-- request brings three runs: in one the older call of its name hears of its end, in one the new call takes the request,
-- and in one it hears that the input has ended.
abbrev pub entries_behind : (Event → ℕ) → PacketType → Packet → ℕ
entries_behind most Request p =
    run_entries most (Ended Cancelled) + run_entries most (Requested p.payload) + run_entries most (Ended Unavailable)
entries_behind most ClientStream p = run_entries most (Message p.payload)
entries_behind most Completion p = run_entries most Completed
entries_behind most ClientError p = run_entries most (Ended (status_of p.status))
entries_behind most _ p = 1

-- the entries that a packet brings
abbrev pub arrival_entries : (Event → ℕ) → Packet → ℕ
arrival_entries most p = 1 + entries_behind most p.ptype p

-- the entries that packets bring
abbrev pub history_entries : (Event → ℕ) → List Packet → ℕ
history_entries most packets = sum_by (arrival_entries most) packets

-- A server whose handlers' type is ruled makes no more entries of packets than they bring, and the EndIn; and no more in
-- a full beginning.
pub record EntriesWithin : Type 0 where
  pub whole : (rule : HandlerRule) (set : Setting) (packets : List Packet) (h : List Entry) (good : Memo → Bool) (most : Event → ℕ)
      → set.role ≡ Server → IsTrue rule.ruled → AnswersWithin rule good most → BeginGood rule set good packets
      → IsOneThreadHistory rule set packets h → length h ≤ history_entries most packets + 1
  pub beginning : (rule : HandlerRule) (set : Setting) (packets : List Packet) (h : List Entry) (good : Memo → Bool) (most : Event → ℕ)
      → set.role ≡ Server → IsTrue rule.ruled → AnswersWithin rule good most → BeginGood rule set good packets
      → IsFullBeginning rule set packets h → length h ≤ history_entries most packets + 1
