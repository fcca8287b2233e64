-- The world between two turns: both ends by their histories, the link between them, and the commands.
use Rattle.std.specs.Prelude.{ℕ, ◌*◌, List, [], length, drop, Option, Some, None}
use Rattle.link_io.specs.Stored.{Stored}
use Rattle.link_script.specs.declared.command.Command.{Command}
use Rattle.link_script.specs.declared.loss.Loss.{Loss}
use Rattle.link_script.specs.declared.report.ReportLine.{ReportLine}
use Rattle.rpc_ids.specs.declared.method.Role.{Role}
use Rattle.rpc_ids.specs.declared.method.Role.TheVariants.{Server, Client}
use Rattle.rpc_packet.specs.declared.owned.Packet.{Packet}
use Rattle.rpc_handlers.specs.HandlerRule.{HandlerRule}
use Rattle.rpc_journal.specs.declared.entry.Entry.{Entry}
use Rattle.rpc_journal.specs.declared.setting.Setting.{Setting}
use Rattle.rpc_journal.specs.Effect.{Deed}
use Rattle.rpc_journal.specs.History.{history}
use Rattle.rpc_journal.specs.Items.{items_flushed, packets_of}
use Rattle.rpc_schedule.specs.Kept.{kept}
use Rattle.transfer_client.specs.Read.{Download}
use Rattle.transfer_client.specs.Write.{Upload}
use Rattle.link_laws.specs.declared.world.limits.TheConstants.{TURN_OF_TIME}
use Rattle.link_script.specs.lossy.Link.{Link, new_link}
use Rattle.link_laws.specs.world.Wiring.{Wiring, with_all_sent}

-- what is fixed with a world
pub record Setup : Type 0 where
  -- the rule of the service's handlers
  pub rule : HandlerRule
  -- what is fixed with the history of each end
  pub server : Setting
  pub client : Setting
  -- what the stores hold at first
  pub server_store : Stored
  pub client_store : Stored
  -- what the link does to frames, by their numbers
  pub losses : List (ℕ × Loss)
  -- how a read asks for pieces: the chunks of its first window, and the bytes of a chunk
  pub window : ℕ
  pub chunk : ℕ

-- a transfer of the client
pub data Transfer : Type 0 where
  reads : (download : Download) → Transfer
  writes : (upload : Upload) → Transfer

-- the client's task: it speaks in this session, through this call of the client
pub record Tasked : Type 0 where
  pub call : ℕ
  pub session : ℕ
  pub transfer : Transfer

-- the methods of demo.Demo
pub data Plain : Type 0 where
  echo : Plain
  count : Plain
  sum : Plain
  chat : Plain

-- the command under way
pub data Under : Type 0 where
  -- a read, or a write of a resource that the client has
  transferring : (task : Tasked) → Under
  -- a write of a resource that it doesn't have
  lacking : (resource : ℕ) → Under
  -- a call of a method of demo.Demo, by the call's number at the client
  calling : (plain : Plain) (call : ℕ) → Under
  -- a channel was closed, and so many calls of the server ended by that; or it was closed before
  closing : (channel : ℕ) (ended : Option ℕ) → Under

pub record World : Type 0 where
  -- the histories of both ends
  pub server : List Entry
  pub client : List Entry
  -- the bytes delivered to each
  pub fed_server : List ℕ
  pub fed_client : List ℕ
  pub to_server : Link
  pub to_client : Link
  -- the packets whose frames were numbered, in order; the first one has number 1
  pub numbered : List Packet
  -- the deliveries
  pub delivered : ℕ
  -- the turns of time
  pub times : ℕ
  -- the sessions that the client has begun; the first one has number 1
  pub sessions : ℕ
  pub coming : List Command
  pub under : Option Under
  -- the lines of the commands that have ended
  pub lines : List ReportLine

-- before anything happens
abbrev pub first_world : List Command → World
first_world commands = record {
  server = [];
  client = [];
  fed_server = [];
  fed_client = [];
  to_server = new_link;
  to_client = new_link;
  numbered = [];
  delivered = 0;
  times = 0;
  sessions = 0;
  coming = commands;
  under = None;
  lines = [];
}

-- in milliseconds
abbrev pub moment : World → ℕ
moment w = TURN_OF_TIME * w.times

module _ (k : Setup) where
  abbrev pub server_deeds : World → List Deed
  server_deeds w = history k.server w.server

  abbrev pub client_deeds : World → List Deed
  client_deeds w = history k.client w.client

  -- what each store holds: what it held at first, with what was flushed
  abbrev pub server_store : World → Stored
  server_store w = kept (items_flushed (server_deeds w)) k.server_store

  abbrev pub client_store : World → Stored
  client_store w = kept (items_flushed (client_deeds w)) k.client_store

-- the packets that were flushed in a history
abbrev pub packets_flushed : Setting → List Entry → List Packet
packets_flushed set h = packets_of (items_flushed (history set h))

-- those that were flushed since it was an earlier one
abbrev pub flushed_since : Setting → List Entry → List Entry → List Packet
flushed_since set before after = packets_of (drop (length (items_flushed (history set before))) (items_flushed (history set after)))

module _ (k : Setup) where
  -- both directions of the link
  abbrev pub wiring_of : World → Wiring
  wiring_of w = record { losses = k.losses; to_server = w.to_server; to_client = w.to_client; numbered = w.numbered }

-- the link is so then
abbrev pub with_wiring : Wiring → World → World
with_wiring x w = record w { to_server = x.to_server; to_client = x.to_client; numbered = x.numbered }

module _ (k : Setup) where
  -- these packets go out at this end
  abbrev pub all_sent_by : Role → List Packet → World → World
  all_sent_by role packets w = with_wiring (with_all_sent role packets (wiring_of k w)) w

  -- an end has come to these entries, and what was flushed on the way goes out
  abbrev pub with_server : World → List Entry → World
  with_server w after = all_sent_by Server (flushed_since k.server w.server after) (record w { server = after })

  abbrev pub with_client : World → List Entry → World
  with_client w after = all_sent_by Client (flushed_since k.client w.client after) (record w { client = after })

-- THE TASK THAT SPEAKS
abbrev pub task_under : Option Under → Option Tasked
task_under (Some (transferring t)) = Some t
task_under _ = None

abbrev pub task_of : World → Option Tasked
task_of w = task_under w.under

abbrev pub under_with : Option Tasked → Option Under → Option Under
under_with (Some t) (Some (transferring old)) = Some (transferring t)
under_with _ under = under

-- the task stands so then
abbrev pub with_task : Option Tasked → World → World
with_task task w = record w { under = under_with task w.under }
