-- What the client does in a turn, until it is idle: its calls run, the task that speaks is polled once with what came to
-- its call, and what it says is said; then all goes out.
use Rattle.std.specs.Prelude.{◌≡◌, ℕ, zero, suc, List, [], ◌∷◌, drop, flat_map, fold, length, Option, Some, None, is_none, if◌then◌else◌}
use Rattle.rpc_packet.specs.declared.owned.Packet.{Packet}
use Rattle.rpc_handlers.specs.declared.answer.Out.{Out}
use Rattle.rpc_handlers.specs.declared.event.Event.{Event}
use Rattle.rpc_handlers.specs.declared.event.Event.TheVariants.{Message, Ended}
use Rattle.rpc_handlers.specs.HandlerRule.{HandlerRule}
use Rattle.rpc_journal.specs.declared.entry.Entry.{Entry}
use Rattle.rpc_journal.specs.declared.entry.EntryKind.TheVariants.{Arrive, Say}
use Rattle.rpc_journal.specs.declared.setting.Setting.{Setting}
use Rattle.rpc_journal.specs.Choice.{NoneReady}
use Rattle.rpc_journal.specs.History.{adding, history}
use Rattle.rpc_journal.specs.Refusals.{out_refusal}
use Rattle.rpc_journal.specs.States.{finished_since}
use Rattle.rpc_schedule.specs.Schedule.{Flushed, NoneWaits, Ran, input_seat, run_seat}
use Rattle.task_core.specs.declared.mail.Mail.{Mail}
use Rattle.task_core.specs.declared.mail.Mail.TheVariants.{Text, Closed}
use Rattle.transfer_client.specs.Polling.{polled}
use Rattle.transfer_client.specs.Read.{read_rules}
use Rattle.transfer_client.specs.Write.{write_rules}
use Rattle.transfer_words.specs.Saying.{outs_of}
use Rattle.link_laws.specs.world.Setup.{quiet_rule}
use Rattle.link_laws.specs.world.World.{Tasked, Transfer, reads, writes}

-- so many runs, each of the call that is first ready then
abbrev pub RunsTo : HandlerRule → Setting → ℕ → List Entry → List Entry → Type 0
RunsTo rule set zero before after = after ≡ before
RunsTo rule set (suc n) before after = (mid : List Entry) × Ran rule set before mid × RunsTo rule set n mid after

-- so many flushes, each of the first item that waits then
abbrev pub FlushesTo : Setting → ℕ → List Entry → List Entry → Type 0
FlushesTo set zero before after = after ≡ before
FlushesTo set (suc n) before after = (mid : List Entry) × Flushed set before mid × FlushesTo set n mid after

-- the events that the runs of c have taken, where its handler was never replaced
abbrev pub events_run : Setting → List Entry → ℕ → List Event
events_run set h c = finished_since (history set h) c

abbrev pub mail_of : Event → List Mail
mail_of (Message payload) = Text payload ∷ []
mail_of (Ended status) = Closed status ∷ []
mail_of _ = []

-- what came to c between two histories, as mail
abbrev pub mail_between : Setting → List Entry → List Entry → ℕ → List Mail
mail_between set before ran c = flat_map mail_of (drop (length (events_run set before c)) (events_run set ran c))

-- a poll of a transfer: where it stands then, and what it says
abbrev pub transfer_polled : ℕ → Transfer → List Mail → ℕ → Transfer
transfer_polled session (reads d) mail now = reads (polled read_rules session d mail now).after
transfer_polled session (writes u) mail now = writes (polled write_rules session u mail now).after

abbrev pub transfer_says : ℕ → Transfer → List Mail → ℕ → List Out
transfer_says session (reads d) mail now = outs_of session (polled read_rules session d mail now).sayings
transfer_says session (writes u) mail now = outs_of session (polled write_rules session u mail now).sayings

abbrev pub task_polled : Tasked → List Mail → ℕ → Tasked
task_polled t mail now = record t { transfer = transfer_polled t.session t.transfer mail now }

-- this is said in call c, unless the table refuses it
abbrev pub said_in : Setting → ℕ → List Entry → Out → List Entry
said_in set c h out = if is_none (out_refusal set (history set h) c out) then adding h run_seat (Say c out) else h

abbrev pub all_said_in : Setting → ℕ → List Out → List Entry → List Entry
all_said_in set c outs h = fold (said_in set c) h outs

-- The task, if one speaks, is polled at a moment with what came to its call between these histories: where it stands
-- then, what it says, and the entries that this adds.
module _ (set : Setting) (now : ℕ) (before ran : List Entry) where
  abbrev pub task_after : Option Tasked → Option Tasked
  task_after None = None
  task_after (Some t) = Some (task_polled t (mail_between set before ran t.call) now)

  abbrev pub task_says : Tasked → List Out
  task_says t = transfer_says t.session t.transfer (mail_between set before ran t.call) now

  abbrev pub task_said : Option Tasked → List Entry
  task_said None = ran
  task_said (Some t) = all_said_in set t.call (task_says t) ran

-- THE CLIENT'S WORK IN A TURN, at a moment: it leads from these entries, and this task, to those
pub record ClientSettles (set : Setting) (now : ℕ) (before : List Entry) (task : Option Tasked) (after : List Entry) (next : Option Tasked) : Type 0 where
  pub ran : List Entry
  pub run_count : ℕ
  pub runs : RunsTo quiet_rule set run_count before ran
  pub none_ready : NoneReady (history set ran)
  pub task_is : next ≡ task_after set now before ran task
  pub flush_count : ℕ
  pub flushes : FlushesTo set flush_count (task_said set now before ran task) after
  pub none_waits : NoneWaits (history set after)

-- each of these packets arrives, and the client does its work behind it
abbrev pub ClientTakes : Setting → ℕ → List Packet → List Entry → Option Tasked → List Entry → Option Tasked → Type 0
ClientTakes set now [] before task after next = (after ≡ before) × (next ≡ task)
ClientTakes set now (p ∷ ps) before task after next =
    (mid : List Entry) × (midway : Option Tasked) × ClientSettles set now (adding before input_seat (Arrive p)) task mid midway
    × ClientTakes set now ps mid midway after next
