-- The client's rounds: its task is polled once, and what it says goes out.
use Rattle.std.specs.Prelude.{◌≡◌, ◌≢◌, ℕ, true, false, List, [], ◌∷◌, ◌++◌, map, Option, Some, None}
use Rattle.rpc_channel.specs.Rising.{has_id}
use Rattle.rpc_ids.specs.declared.method.MethodRef.{MethodRef}
use Rattle.rpc_ids.specs.declared.method.Role.TheVariants.{Client}
use Rattle.rpc_packet.specs.declared.owned.Packet.{Packet}
use Rattle.rpc_handlers.specs.declared.event.Memo.{Memo}
use Rattle.rpc_journal.specs.declared.entry.Entry.{Entry}
use Rattle.rpc_journal.specs.declared.entry.EntryKind.TheVariants.{Arrive, Invoke}
use Rattle.rpc_journal.specs.declared.item.Item.{Item}
use Rattle.rpc_journal.specs.declared.setting.Setting.{Setting}
use Rattle.rpc_journal.specs.Effect.{Opening}
use Rattle.rpc_journal.specs.Entries.{out_item}
use Rattle.rpc_journal.specs.History.{adding, history}
use Rattle.rpc_journal.specs.Calls.{call_count, live_call}
use Rattle.rpc_journal.specs.Items.{is_completion_type, is_done, items_sent}
use Rattle.rpc_journal.specs.Kinds.{streams_down, streams_up}
use Rattle.rpc_journal.specs.Lawful.{IsLawful}
use Rattle.rpc_journal.specs.Queues.{waiting_of}
use Rattle.rpc_journal.specs.Rows.{channels_in, method_named, packet_item}
use Rattle.rpc_schedule.specs.Schedule.{input_seat, run_seat}
use Rattle.task_core.specs.declared.mail.Mail.{Mail}
use Rattle.task_core.specs.declared.mail.Mail.TheVariants.{Text}
use Rattle.history_laws.specs.rounds.Rounds.{ComesToStream}
use Rattle.history_laws.specs.rounds.Streams.{HasStream, IsAtRest}
use Rattle.link_laws.specs.world.Setup.{quiet_rule}
use Rattle.link_laws.specs.world.World.{Tasked}
use Rattle.link_laws.specs.one_run.Speaking.{opening_by}
use Rattle.link_laws.specs.world.Client.{ClientSettles, task_polled, transfer_says}

-- at a client, call c opened so, and the client may say messages on it
pub record MaySay (set : Setting) (h : List Entry) (c : ℕ) (o : Opening) : Type 0 where
  pub role : set.role ≡ Client
  pub speaks : streams_up o.method.kind ≡ true
  pub undone : is_done (history set h) c ≡ false

-- The task was polled once with this mail, at a moment, and all that it said went out as messages and store actions of its
-- call, behind these items. The client is at rest then, the call may be used as before, and each other stream is as it was.
pub record IsPoll (set : Setting) (now : ℕ) (h : List Entry) (t : Tasked) (o : Opening) (m : Memo) (items : List Item) (mail : List Mail) (after : List Entry) (next : Option Tasked) : Type 0 where
  pub polled : next ≡ Some (task_polled t mail now)
  pub said : items_sent (history set after) ≡ items_sent (history set h) ++ (items ++ map (out_item Client t.call o.name) (transfer_says t.session t.transfer mail now))
  pub rest : IsAtRest (history set after)
  pub stream : HasStream quiet_rule set (history set after) t.call o m
  pub undone : is_done (history set after) t.call ≡ false
  pub others : (k : ℕ) (other : Opening) (state : Memo) → k ≢ t.call → HasStream quiet_rule set (history set h) k other state
      → HasStream quiet_rule set (history set after) k other state

-- a message comes to the open stream of the call through which the task speaks
abbrev pub MessagesArePolled : Type 0
MessagesArePolled =
    (set : Setting) (now : ℕ) (h after : List Entry) (t : Tasked) (next : Option Tasked) (o : Opening) (m : Memo) (p : Packet) → ComesToStream quiet_rule set h t.call o m p
    → MaySay set h t.call o → ClientSettles set now (adding h input_seat (Arrive p)) (Some t) after next
    → IsPoll set now h t o m [] (Text p.payload ∷ []) after next

-- nothing comes, and a task speaks through such a call
abbrev pub TasksBegin : Type 0
TasksBegin =
    (set : Setting) (now : ℕ) (h after : List Entry) (t : Tasked) (next : Option Tasked) (o : Opening) (m : Memo) → IsAtRest (history set h)
    → HasStream quiet_rule set (history set h) t.call o m → MaySay set h t.call o → ClientSettles set now h (Some t) after next
    → IsPoll set now h t o m [] [] after next

-- A client at rest opens the call through which the task speaks: its method is known and has streams both ways, and no live call
-- has its name.
pub record OpensCall (set : Setting) (h : List Entry) (method : MethodRef) (p : Packet) (t : Tasked) : Type 0 where
  pub rest : IsAtRest (history set h)
  pub lawful : IsLawful set h
  pub role : set.role ≡ Client
  pub channel : has_id (channels_in set (history set h)) p.name.channel ≡ true
  pub known : method_named set p.name ≡ Some method
  pub up : streams_up method.kind ≡ true
  pub down : streams_down method.kind ≡ true
  pub fresh : live_call (history set h) p.name ≡ None
  pub type : is_completion_type p.ptype ≡ false
  pub call : t.call ≡ call_count (history set h)

-- the task speaks through a call that is opened for it: the packet goes out before all that it says
abbrev pub CallsOpen : Type 0
CallsOpen =
    (set : Setting) (now : ℕ) (h after : List Entry) (t : Tasked) (next : Option Tasked) (method : MethodRef) (p : Packet) (m : Memo) → OpensCall set h method p t
    → ClientSettles set now (adding h run_seat (Invoke p m)) (Some t) after next
    → IsPoll set now h t (opening_by p method m) m (packet_item t.call p ∷ []) [] after next

-- the client's work leaves a stream open where no event waits for it, with a task that speaks or without one, whatever is said
-- and refused
abbrev pub StreamsStay : Type 0
StreamsStay =
    (set : Setting) (now : ℕ) (before after : List Entry) (task next : Option Tasked) (k : ℕ) (o : Opening) (m : Memo) → waiting_of (history set before) k ≡ []
    → HasStream quiet_rule set (history set before) k o m → ClientSettles set now before task after next → HasStream quiet_rule set (history set after) k o m
