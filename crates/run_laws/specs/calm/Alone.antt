-- Whether packets are calm, told by the packets alone: what they put to each call, and whether an answer to that ends it.
use Rattle.std.specs.Prelude.{◌≡◌, ℕ, ◌+◌, Bool, true, not, ◌&&◌, ◌||◌, List, [], ◌∷◌, ◌++◌, reverse, is_none, IsTrue}
use Rattle.std.specs.List.{list_any}
use Rattle.rpc_ids.specs.declared.method.Role.TheVariants.{Server}
use Rattle.rpc_packet.specs.declared.call_name.CallName.{CallName}
use Rattle.rpc_packet.specs.declared.owned.Packet.{Packet}
use Rattle.rpc_handlers.specs.declared.event.Event.{Event}
use Rattle.rpc_handlers.specs.declared.event.Memo.{Memo}
use Rattle.rpc_handlers.specs.HandlerRule.{HandlerRule}
use Rattle.rpc_journal.specs.declared.entry.EntryKind.TheVariants.{Arrive}
use Rattle.rpc_journal.specs.declared.setting.Setting.{Setting}
use Rattle.rpc_journal.specs.Calls.{calls, of_call, same_name}
use Rattle.rpc_journal.specs.Effect.{Deed, Opening}
use Rattle.rpc_journal.specs.History.{deeds_with, entry_by}
use Rattle.rpc_journal.specs.Lawful.{is_request}
use Rattle.rpc_journal.specs.Queues.{is_ended}
use Rattle.rpc_journal.specs.Rows.{method_named}
use Rattle.rpc_journal.specs.States.{opened_state}
use Rattle.rpc_schedule.specs.Schedule.{input_seat}
use Rattle.run_laws.specs.calm.Calm.{AreCalm, is_client_error, is_ticking}

-- the deeds of a server that packets arrive at, the newest first, and that does nothing else
abbrev pub arrived : Setting → List Packet → List Deed
arrived set [] = []
arrived set (p ∷ earlier) = deeds_with set (arrived set earlier) (entry_by input_seat (Arrive p))

-- all events that were put to c, in order
abbrev pub puts_to : List Deed → ℕ → List Event
puts_to [] c = []
puts_to (d ∷ ds) c = puts_to ds c ++ of_call c d.does.puts

-- the answer to this event, in this state, leaves the call open
abbrev pub leaves_open : HandlerRule → Memo → Event → Bool
leaves_open rule m event = is_ended event || is_none (rule.answer m event).end

-- so do the answers to all of these, one behind the other
abbrev pub stays_open : HandlerRule → Memo → List Event → Bool
stays_open rule m [] = true
stays_open rule m (event ∷ events) = leaves_open rule m event && stays_open rule (rule.next m event) events

-- of these calls, from number n on: the answers to all that was put to a call of this name leave it open
abbrev pub leave_open : HandlerRule → Setting → List Deed → CallName → ℕ → List Opening → Bool
leave_open rule set ds name n [] = true
leave_open rule set ds name n (o ∷ os) =
    (not (same_name o.name name) || stays_open rule (opened_state rule set o) (puts_to ds n)) && leave_open rule set ds name (n + 1) os

-- among these packets is a REQUEST of this name
abbrev pub has_request : CallName → List Packet → Bool
has_request name packets = list_any (λ p. is_request p.ptype && same_name p.name name) packets

-- a packet is calm behind these, which stand the newest first
abbrev pub is_calm_behind : HandlerRule → Setting → List Packet → Packet → Bool
is_calm_behind rule set earlier p =
    not (is_client_error p.ptype)
    && (not (is_request p.ptype) || (not (has_request p.name earlier) && not (is_ticking (method_named set p.name))))
    && leave_open rule set (arrived set earlier) p.name 0 (calls (arrived set earlier))

-- so is each of these, the newest first
abbrev pub are_calm_behind : HandlerRule → Setting → List Packet → Bool
are_calm_behind rule set [] = true
are_calm_behind rule set (p ∷ earlier) = are_calm_behind rule set earlier && is_calm_behind rule set earlier p

-- the packets are calm
abbrev pub is_calm : HandlerRule → Setting → List Packet → Bool
is_calm rule set packets = are_calm_behind rule set (reverse packets)

-- at a server whose handlers' type is ruled they are calm exactly where the test says so
pub record ToldByPackets : Type 0 where
  pub enough : (rule : HandlerRule) (set : Setting) (packets : List Packet) → set.role ≡ Server → IsTrue rule.ruled
      → is_calm rule set packets ≡ true → AreCalm rule set packets
  pub needed : (rule : HandlerRule) (set : Setting) (packets : List Packet) → set.role ≡ Server → IsTrue rule.ruled
      → AreCalm rule set packets → is_calm rule set packets ≡ true
