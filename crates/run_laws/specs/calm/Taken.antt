-- The events that the runs of a call take, in a history of any schedule and in that of one thread.
use Rattle.std.specs.Prelude.{◌≡◌, ℕ, Bool, true, false, List, [], ◌∷◌, ◌++◌, IsTrue, if◌then◌else◌}
use Rattle.std.specs.List.{AllByRecursion}
use mathlib.Core.List.{IsPrefix}
use Rattle.rpc_ids.specs.declared.method.Role.TheVariants.{Server}
use Rattle.rpc_packet.specs.declared.owned.Packet.{Packet}
use Rattle.rpc_handlers.specs.declared.event.Event.{Event}
use Rattle.rpc_handlers.specs.HandlerRule.{HandlerRule}
use Rattle.rpc_journal.specs.declared.entry.Entry.{Entry}
use Rattle.rpc_journal.specs.declared.entry.EntryKind.{EntryKind}
use Rattle.rpc_journal.specs.declared.entry.EntryKind.TheVariants.{Arrive, Start, Finish, Tick, Flush, EndIn}
use Rattle.rpc_journal.specs.declared.setting.Setting.{Setting}
use Rattle.rpc_journal.specs.declared.waiting.Waiting.{Waiting}
use Rattle.rpc_journal.specs.Calls.{is_start_of}
use Rattle.rpc_journal.specs.Effect.{Deed}
use Rattle.rpc_journal.specs.History.{history}
use Rattle.rpc_journal.specs.Items.{arrivals, input_ended}
use Rattle.rpc_journal.specs.Lawful.{IsLegal}
use Rattle.rpc_journal.specs.Queues.{waiting_of}
use Rattle.rpc_schedule.specs.OneThread.{IsOneThreadHistory}
use Rattle.run_laws.specs.calm.Calm.{AreCalm}

-- the event that waits in front
abbrev pub front_event : List Waiting → List Event
front_event [] = []
front_event (w ∷ ws) = w.event ∷ []

-- the events that the runs of c took, in order
abbrev pub events_taken : List Deed → ℕ → List Event
events_taken [] c = []
events_taken (d ∷ ds) c = if is_start_of c d.entry.kind then events_taken ds c ++ front_event (waiting_of ds c) else events_taken ds c

-- what a server's threads add by themselves: nobody cancels, replaces, closes or halts
abbrev pub is_servers_own : EntryKind → Bool
is_servers_own (Arrive p) = true
is_servers_own (Start c) = true
is_servers_own (Finish c answer) = true
is_servers_own (Tick now) = true
is_servers_own Flush = true
is_servers_own EndIn = true
is_servers_own _ = false

-- A legal history of such entries alone, on whatever schedule, in which these packets arrived or a beginning of them, and all
-- of them where the input has ended.
pub record IsServed (rule : HandlerRule) (set : Setting) (packets : List Packet) (h : List Entry) : Type 0 where
  pub legal : IsLegal rule set h
  pub kinds : AllByRecursion (λ e. is_servers_own e.kind ≡ true) h
  pub heard : IsPrefix (arrivals h) packets
  pub whole : input_ended (history set h) ≡ true → arrivals h ≡ packets

-- Over calm packets the runs of a call take, on any schedule, a beginning of the events that they take on one thread.
abbrev pub RunsBeginAlike : Type 0
RunsBeginAlike =
    (rule : HandlerRule) (set : Setting) (packets : List Packet) (h one : List Entry) (c : ℕ) → set.role ≡ Server → IsTrue rule.ruled
    → AreCalm rule set packets → IsServed rule set packets h → IsOneThreadHistory rule set packets one
    → IsPrefix (events_taken (history set h) c) (events_taken (history set one) c)
