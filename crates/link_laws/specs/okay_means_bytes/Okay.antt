-- What a line with OK tells of.
use Rattle.std.specs.Prelude.{◌≡◌, ℕ, zero, suc, ◌+◌, ◌<◌, ◌≤◌, ◌^◌, List, [], ◌∷◌, drop, length, Option, Some, None}
use mathlib.Core.List.{IsPrefix}
use Rattle.link_io.specs.Resources.{first_of, found}
use Rattle.link_script.specs.declared.command.Command.{Command}
use Rattle.link_script.specs.declared.command.Command.TheVariants.{Read, Write}
use Rattle.link_script.specs.declared.report.ReportLine.{ReportLine}
use Rattle.link_script.specs.declared.report.ReportLine.TheVariants as line
use Rattle.rpc_ids.specs.declared.status.Status.TheVariants.{Okay}
use Rattle.rpc_journal.specs.declared.item.Item.{Item}
use Rattle.rpc_journal.specs.Items.{items_flushed}
use Rattle.rpc_journal.specs.Lawful.{IsLegal}
use Rattle.transfer_base.specs.declared.limits.TheConstants.{MAX_CHUNK, MAX_RESOURCE, MAX_WINDOW}
use Rattle.demo_services.specs.DemoRule.{demo_rule}
use Rattle.link_laws.specs.uploads.Uploads.{deeds_by}
use Rattle.transfer_laws.specs.words.Tasks.{MakesWhole}
use Rattle.link_laws.specs.world.Setup.{client_setting, server_setting}
use Rattle.link_laws.specs.world.Sound.{AreSendable, IsSound, NoFlips}
use Rattle.link_laws.specs.world.Starts.{starts}
use Rattle.link_laws.specs.world.Turns.{Kind, Turned, Turns, cancelling, ending, next_kind, starting, timing, to_client, to_server}
use Rattle.link_laws.specs.world.World.{task_under, Setup, Tasked, Transfer, World, client_deeds, client_store, first_world, reads, server_deeds, writes}

-- A world of the demo services, as a script makes it: each end with its setting, and windows and chunks as they may be.
pub record IsDemo (k : Setup) : Type 0 where
  pub rule : k.rule ≡ demo_rule
  pub server : k.server ≡ server_setting k.server_store k.window k.chunk
  pub client : k.client ≡ client_setting
  pub window : k.window ≤ MAX_WINDOW
  pub chunk : k.chunk ≤ MAX_CHUNK

-- the numbers of a transfer are those of a chunk's fields, and its bytes are no more than a resource may have
abbrev pub FitsTransfer : Transfer → Type 0
FitsTransfer (reads d) = (d.resource < 2 ^ 32) × (d.asked ≤ MAX_RESOURCE)
FitsTransfer (writes u) = (u.resource < 2 ^ 32) × (length u.bytes ≤ MAX_RESOURCE)

abbrev pub FitsTask : Option Tasked → Type 0
FitsTask None = Unit {0}
FitsTask (Some t) = (t.session < 2 ^ 32) × FitsTransfer t.transfer

-- the transfer that starts next, if one does, fits so
abbrev pub FitsStart : Setup → World → Kind → Type 0
FitsStart k w (starting command rest) = FitsTask (task_under (Some (starts k w command).under))
FitsStart k w (to_server frame rest) = Unit {0}
FitsStart k w (to_client frame rest) = Unit {0}
FitsStart k w (cancelling call) = Unit {0}
FitsStart k w timing = Unit {0}
FitsStart k w ending = Unit {0}

abbrev pub NextFits : Setup → World → Type 0
NextFits k w = FitsStart k w (next_kind w)

-- so it is in each world on the way
abbrev pub OnTheWay : (k : Setup) → (World → Type 0) → (n : ℕ) (w now : World) → Turns k n w now → Type 0
OnTheWay k P zero w now turns = P w
OnTheWay k P (suc n) w now turns = P w × OnTheWay k P n turns.0 now turns.2

-- so it is in each world of a run, up to the end
abbrev pub Throughout : (k : Setup) (commands : List Command) (now : World) → (World → Type 0) → Turned k commands now → Type 0
Throughout k commands now P run = OnTheWay k P run.count (first_world commands) run.before run.turns

-- Among what has gone out, this session of a call has made a resource whole at some moment.
pub record IsCommitted (items : List Item) (session resource offset : ℕ) (bytes : List ℕ) : Type 0 where
  pub call : ℕ
  pub by_then : List Item
  pub begin : IsPrefix by_then items
  pub whole : MakesWhole resource offset bytes (deeds_by call session by_then)

-- The command was started in a world on the way, in which so many lines had been told.
pub record HasStarted (k : Setup) (commands : List Command) (number : ℕ) (command : Command) : Type 0 where
  pub count : ℕ
  pub world : World
  pub rest : List Command
  pub way : Turns k count (first_world commands) world
  pub next : next_kind world ≡ starting command rest
  pub place : length world.lines ≡ number

-- The write with this number has ended OK: the client had these bytes of the resource as it was started, the session that began
-- then has put them into the server's store from the offset on, and there are so many of them.
pub record WroteWell (k : Setup) (commands : List Command) (now : World) (number resource offset size : ℕ) : Type 0 where
  pub asked : ℕ
  pub started : HasStarted k commands number (Write resource asked)
  pub bytes : List ℕ
  pub had : found resource (client_store k started.world).full ≡ Some bytes
  pub committed : IsCommitted (items_flushed (server_deeds k now)) (started.world.sessions + 1) resource offset (drop offset bytes)
  pub within : offset ≤ length bytes
  pub size_is : size ≡ length bytes

-- The read with this number has ended OK: these are the bytes of the resource that the server listed, the session that began as it
-- was started has put them into the client's store from the offset on, and there are so many of them.
pub record ReadWell (k : Setup) (commands : List Command) (now : World) (number resource offset size : ℕ) : Type 0 where
  pub asked : ℕ
  pub started : HasStarted k commands number (Read resource asked)
  pub bytes : List ℕ
  pub had : first_of resource k.server_store.full ≡ Some bytes
  pub committed : IsCommitted (items_flushed (client_deeds k now)) (started.world.sessions + 1) resource offset (drop offset bytes)
  pub within : offset ≤ length bytes
  pub size_is : size ≡ length bytes

-- the line at this place
abbrev pub LineHolds : Setup → List Command → World → ℕ → ReportLine → Type 0
LineHolds k commands now number (line.Write resource offset Okay size) = WroteWell k commands now number resource offset size
LineHolds k commands now number (line.Read resource offset Okay size) = ReadWell k commands now number resource offset size
LineHolds k commands now number _ = Unit {0}

-- lines, the first of them at this place
abbrev pub LinesHoldFrom : Setup → List Command → World → ℕ → List ReportLine → Type 0
LinesHoldFrom k commands now number [] = Unit {0}
LinesHoldFrom k commands now number (told ∷ lines) = LineHolds k commands now number told × LinesHoldFrom k commands now (suc number) lines

-- OK MEANS THE BYTES, where what arrived was sent, in each world of the run, and each transfer fits that starts
abbrev pub OkayMeansTheBytes : Type 0
OkayMeansTheBytes =
    (k : Setup) (commands : List Command) (now : World) → IsDemo k → (run : Turned k commands now) → IsLegal k.rule k.server now.server
    → Throughout k commands now (IsSound k) run → Throughout k commands now (NextFits k) run → LinesHoldFrom k commands now 0 now.lines

-- where nothing is damaged each world of a run is sound
abbrev pub SoundThroughout : Type 0
SoundThroughout =
    (k : Setup) (commands : List Command) (now : World) → NoFlips k.losses → (run : Turned k commands now) → AreSendable k now → Throughout k commands now (IsSound k) run
