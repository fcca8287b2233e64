-- A transfer of the client as a task that speaks through a call.
use Rattle.std.specs.Prelude.{◌≡◌, ℕ, ◌≤◌, Bool, true, false, List, [], flat_map, Option, Some, None}
use Rattle.slab.specs.Slab.{get}
use Rattle.rpc_handlers.specs.declared.answer.Out.{Out}
use Rattle.rpc_handlers.specs.declared.event.Event.{Event}
use Rattle.rpc_journal.specs.declared.entry.Entry.{Entry}
use Rattle.rpc_journal.specs.declared.setting.Setting.{Setting}
use Rattle.rpc_journal.specs.Calls.{of_call}
use Rattle.task_core.specs.declared.mail.Mail.{Mail}
use Rattle.task_core.specs.declared.place.Place.{Place}
use Rattle.task_core.specs.Due.{result_of}
use Rattle.task_core.specs.Log.{Step, is_added, mail_of as mail_in}
use Rattle.task_core.specs.Tasks.{StandsFor, Tasks}
use Rattle.task_core.specs.Visit.{Ending, Visit, is_short_of_memory}
use Rattle.transfer_client.specs.Read.{new_download, read_offset}
use Rattle.transfer_client.specs.Write.{write_offset}
use Rattle.transfer_client.specs.Tasks.{PollsRead, PollsWrite}
use Rattle.link_laws.specs.world.Client.{all_said_in, mail_of, task_polled, transfer_says}
use Rattle.link_laws.specs.world.Stops.{saying_stops}
use Rattle.link_laws.specs.world.Lines.{transfer_end}
use Rattle.link_laws.specs.world.World.{Tasked, Transfer, reads, writes}
use Rattle.link_world.specs.declared.client.transfer_task.TransferTask.{TransferTask}
use Rattle.link_world.specs.declared.client.transfer_task.Way.{Way}
use Rattle.link_world.specs.declared.client.transfer_task.Way.TheVariants.{Read, Write}

-- the task, and the moment of its last poll, or 0 before the first
pub record Speaking : Type 0 where
  pub task : Tasked
  pub polled_at : ℕ

abbrev pub is_read : Transfer → Bool
is_read (reads d) = true
is_read (writes u) = false

abbrev pub resource_in : Transfer → ℕ
resource_in (reads d) = d.resource
resource_in (writes u) = u.resource

abbrev pub offset_in : Transfer → ℕ
offset_in (reads d) = read_offset d
offset_in (writes u) = write_offset u

abbrev pub transfer_in : Way → Transfer
transfer_in (Read r) = reads r.download
transfer_in (Write w) = writes w.upload

abbrev pub session_in : Way → ℕ
session_in (Read r) = r.session
session_in (Write w) = w.session

-- a poll of a transfer: a read stays a read
abbrev pub PollsWay : Way → Visit → Way → Type 0
PollsWay (Read before) visit (Read after) = PollsRead before visit after
PollsWay (Write before) visit (Write after) = PollsWrite before visit after
PollsWay _ visit _ = ⊥

abbrev pub is_short_ending : Ending → Bool
is_short_ending is_short_of_memory = true
is_short_ending _ = false

-- and it tells whether memory was wanting
pub record PollsTransfer (before : TransferTask) (visit : Visit) (after : TransferTask) : Type 0 where
  pub polled : PollsWay before.way visit after.way
  pub short : after.is_short ≡ is_short_ending visit.ending

-- the mail to a call among these events
abbrev pub mail_among : ℕ → List (ℕ × Event) → List Mail
mail_among c events = flat_map mail_of (of_call c events)

-- the transfer in a place of a dispatcher; each place that is asked for has one
abbrev pub transfer_at : Option (Place TransferTask) → Transfer
transfer_at None = reads (new_download 0 0 0 0)
transfer_at (Some p) = transfer_in p.task.way

-- The dispatcher has this one task, which is one of the session and of the resource. It has no mail while it lives, and
-- what it said was taken out.
pub record IsSpeaker (session resource polled_at : ℕ) (tasks : Tasks TransferTask) (key : ℕ) : Type 0 where
  pub log : List (Step TransferTask)
  pub stands : StandsFor tasks log
  pub alone : (k : ℕ) → is_added log k ≡ true → k ≡ key
  pub past : tasks.moment ≤ polled_at
  pub place : Place TransferTask
  pub there : get tasks.places key ≡ Some place
  pub is_of : session_in place.task.way ≡ session
  pub is_for : resource_in (transfer_in place.task.way) ≡ resource
  pub ended : result_of log key ≡ transfer_end (transfer_in place.task.way)
  pub no_mail : result_of log key ≡ None → mail_in log key ≡ []
  pub no_outs : tasks.outs ≡ []

-- the task is polled at a moment with what came to its call among these events
abbrev pub polled_with : ℕ → List (ℕ × Event) → Option Tasked → Option Tasked
polled_with now events None = None
polled_with now events (Some t) = Some (task_polled t (mail_among t.call events) now)

abbrev pub says_with : ℕ → List (ℕ × Event) → Tasked → List Out
says_with now events t = transfer_says t.session t.transfer (mail_among t.call events) now

-- what it says then is said
abbrev pub said_with : Setting → ℕ → List (ℕ × Event) → Option Tasked → List Entry → List Entry
said_with set now events None h = h
said_with set now events (Some t) h = all_said_in set t.call (says_with now events t) h

-- and of that something has no room
abbrev pub SayingStops : Setting → ℕ → List (ℕ × Event) → Option Tasked → List Entry → Type 0
SayingStops set now events None h = ⊥
SayingStops set now events (Some t) h = saying_stops set t.call (says_with now events t) h ≡ true
