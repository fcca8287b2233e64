-- A round: a packet comes for one call, and all that follows from it is done.
use Rattle.std.specs.Prelude.{◌≡◌, ◌≢◌, ℕ, true, List, ◌++◌, length, replicate, Some, None, IsTrue}
use Rattle.rpc_ids.specs.declared.method.MethodRef.{MethodRef}
use Rattle.rpc_ids.specs.declared.method.Role.TheVariants.{Server}
use Rattle.rpc_channel.specs.Rising.{has_id}
use Rattle.rpc_packet.specs.declared.owned.Packet.{Packet}
use Rattle.rpc_packet.specs.declared.packet_type.PacketType.TheVariants.{Request}
use Rattle.rpc_handlers.specs.declared.answer.Answer.{Answer}
use Rattle.rpc_handlers.specs.declared.event.Event.{Event}
use Rattle.rpc_handlers.specs.declared.event.Event.TheVariants.{Message, Request as Asked}
use Rattle.rpc_handlers.specs.declared.event.Memo.{Memo}
use Rattle.rpc_handlers.specs.HandlerRule.{HandlerRule}
use Rattle.rpc_journal.specs.declared.entry.Entry.{Entry}
use Rattle.rpc_journal.specs.declared.entry.EntryKind.TheVariants.{Arrive, Start, Finish, Flush}
use Rattle.rpc_journal.specs.declared.setting.Setting.{Setting}
use Rattle.rpc_journal.specs.Calls.{call_count, live_call}
use Rattle.rpc_journal.specs.Effect.{Opening}
use Rattle.rpc_journal.specs.History.{adding, entry_by, history}
use Rattle.rpc_journal.specs.Items.{items_sent}
use Rattle.rpc_journal.specs.Kinds.{streams_up}
use Rattle.rpc_journal.specs.Lawful.{IsLawful}
use Rattle.rpc_journal.specs.Rows.{channels_in, method_named}
use Rattle.rpc_schedule.specs.Schedule.{Settles, flush_seat, input_seat, run_seat}
use Rattle.history_laws.specs.rounds.Streams.{HasStream, IsAtRest, items_of, message_type}

-- the entries with those of a round behind them: the packet arrives, its call runs once, and so many items are flushed
abbrev pub with_round : List Entry → Packet → ℕ → Answer → ℕ → List Entry
with_round h p c a count =
    adding (adding (adding h input_seat (Arrive p)) run_seat (Start c)) run_seat (Finish c a) ++ replicate count (entry_by flush_seat Flush)

-- The round of a packet that puts an event to c, whose handler is in this state: its call runs once and answers by its rule,
-- and all that this says goes out. The table is at rest then, c's stream is open, and each other stream is as it was.
pub record IsRound (rule : HandlerRule) (set : Setting) (h : List Entry) (p : Packet) (c : ℕ) (o : Opening) (m : Memo) (event : Event) (after : List Entry) : Type 0 where
  pub entries : after ≡ with_round h p c (rule.answer m event) (length (items_of set (history set h) c o (rule.answer m event)))
  pub said : items_sent (history set after) ≡ items_sent (history set h) ++ items_of set (history set h) c o (rule.answer m event)
  pub rest : IsAtRest (history set after)
  pub stream : HasStream rule set (history set after) c o (rule.next m event)
  pub others : (k : ℕ) (other : Opening) (state : Memo) → k ≢ c → HasStream rule set (history set h) k other state
      → HasStream rule set (history set after) k other state

-- a message comes to an open stream of a table at rest, and the handler doesn't answer with an end
pub record ComesToStream (rule : HandlerRule) (set : Setting) (h : List Entry) (c : ℕ) (o : Opening) (m : Memo) (p : Packet) : Type 0 where
  pub rest : IsAtRest (history set h)
  pub stream : HasStream rule set (history set h) c o m
  pub named : p.name ≡ o.name
  pub type : p.ptype ≡ message_type set.role
  pub endless : (rule.answer m (Message p.payload)).end ≡ None

-- A request comes to a server at rest, and opens a call: its method is known, and its client may send it messages. No live call
-- has its name, and the handler doesn't answer with an end.
pub record ComesToOpen (rule : HandlerRule) (set : Setting) (h : List Entry) (method : MethodRef) (p : Packet) : Type 0 where
  pub rest : IsAtRest (history set h)
  pub lawful : IsLawful set h
  pub role : set.role ≡ Server
  pub type : p.ptype ≡ Request
  pub channel : has_id (channels_in set (history set h)) p.name.channel ≡ true
  pub known : method_named set p.name ≡ Some method
  pub streams : streams_up method.kind ≡ true
  pub fresh : live_call (history set h) p.name ≡ None
  pub endless : (rule.answer (rule.first set.seed method) (Asked p.payload)).end ≡ None

-- the call that a request opens
abbrev pub opened_by : Packet → MethodRef → Opening
opened_by p method = record { name = p.name; method = method; given = None }

-- the message settles in a round, and in no other way, where the handlers' type is ruled
abbrev pub MessagesSettle : Type 0
MessagesSettle = (rule : HandlerRule) (set : Setting) (h after : List Entry) (c : ℕ) (o : Opening) (m : Memo) (p : Packet) → IsTrue rule.ruled
    → ComesToStream rule set h c o m p → Settles rule set (adding h input_seat (Arrive p)) after → IsRound rule set h p c o m (Message p.payload) after

-- so does the request, whose call has the next number
abbrev pub RequestsSettle : Type 0
RequestsSettle = (rule : HandlerRule) (set : Setting) (h after : List Entry) (method : MethodRef) (p : Packet) → IsTrue rule.ruled
    → ComesToOpen rule set h method p → Settles rule set (adding h input_seat (Arrive p)) after
    → IsRound rule set h p (call_count (history set h)) (opened_by p method) (rule.first set.seed method) (Asked p.payload) after

-- both settle so
pub record RoundsAreThere : Type 0 where
  pub messages : (rule : HandlerRule) (set : Setting) (h : List Entry) (c : ℕ) (o : Opening) (m : Memo) (p : Packet) → ComesToStream rule set h c o m p
      → (after : List Entry) × Settles rule set (adding h input_seat (Arrive p)) after × IsRound rule set h p c o m (Message p.payload) after
  pub requests : (rule : HandlerRule) (set : Setting) (h : List Entry) (method : MethodRef) (p : Packet) → ComesToOpen rule set h method p
      → (after : List Entry) × Settles rule set (adding h input_seat (Arrive p)) after
      × IsRound rule set h p (call_count (history set h)) (opened_by p method) (rule.first set.seed method) (Asked p.payload) after
