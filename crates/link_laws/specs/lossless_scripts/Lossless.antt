-- Over a link that loses nothing each transfer ends well.
use Rattle.std.specs.Prelude.{◌≡◌, ℕ, ◌+◌, ◌≤◌, min, List, [], count_by, length, slice_get, Some}
use Rattle.link_io.specs.Resources.{first_of, found}
use Rattle.link_io.specs.Stored.{shelf_of}
use Rattle.link_script.specs.declared.command.Command.{Command}
use Rattle.link_script.specs.declared.command.Command.TheVariants.{Read, Write}
use Rattle.link_script.specs.declared.report.ReportLine.{ReportLine}
use Rattle.link_script.specs.declared.script.Script.{Script}
use Rattle.rpc_journal.specs.Lawful.{IsLegal}
use Rattle.transfer_resume.specs.Opening.{agreed_offset}
use Rattle.demo_services.specs.DemoRule.{demo_rule}
use Rattle.transfer_laws.specs.pairs.Bound.{bound}
use Rattle.link_laws.specs.world.Setup.{quiet_rule, setup_of}
use Rattle.link_laws.specs.world.Starts.{left_length}
use Rattle.link_laws.specs.world.Turns.{Turned}
use Rattle.link_laws.specs.world.World.{Setup, World, client_store}
use Rattle.link_laws.specs.one_run.InOrder.{HasAllArrived}
use Rattle.link_laws.specs.plain_calls.Ended.{EndsOkay, HasEnded}
use Rattle.link_laws.specs.lossless_transfer.Chunks.{is_chunk_of}
use Rattle.link_laws.specs.lossless_scripts.Scripts.{BeginsFewWrites, IsOpenScript}

-- how many frames of a run carry a chunk of this session
abbrev pub chunks_of : ℕ → World → ℕ
chunks_of session now = count_by (is_chunk_of session) now.numbered

-- A transfer that starts in this world sends so many chunks at most as it ends with OK: a read of a resource that the server has,
-- from an offset in it, and a write of one that the client has.
abbrev pub SendsFew : Setup → World → Command → ℕ → Type 0
SendsFew k start (Read resource offset) chunks =
    let asked = min offset (left_length k start resource) in
    (bytes : List ℕ) → first_of resource k.server_store.full ≡ Some bytes → asked ≤ length bytes → chunks ≤ bound (length bytes) asked k.chunk
SendsFew k start (Write resource offset) chunks =
    (bytes : List ℕ) → found resource (client_store k start).full ≡ Some bytes
    → chunks ≤ bound (length bytes) (agreed_offset (shelf_of k.server_store) resource (min offset (length bytes))) k.chunk
SendsFew k start command chunks = Unit {0}

-- WHAT A COMMAND THAT STARTS IN THIS WORLD COMES TO: this line was told, and so many chunks of its session were sent
pub record EndsAs (k : Setup) (start : World) (command : Command) (told : ReportLine) (chunks : ℕ) : Type 0 where
  pub okay : EndsOkay k start command told
  pub few : SendsFew k start command chunks

-- a script that closes no channel, over a link that loses nothing
pub record IsLosslessScript (s : Script) : Type 0 where
  pub script : IsOpenScript s
  pub losses : s.losses ≡ []

-- EACH COMMAND OF SUCH A SCRIPT COMES TO ITS LINE, in each run of it that begins few writes, and each transfer to a line with OK
-- within its bound of chunks. The session of a transfer is the next one.
abbrev pub LosslessRunsEndWell : Type 0
LosslessRunsEndWell =
    (s : Script) (now : World) (number : ℕ) (command : Command) → IsLosslessScript s → Turned (setup_of s) s.commands now
    → BeginsFewWrites s.commands now → IsLegal demo_rule (setup_of s).server now.server → IsLegal quiet_rule (setup_of s).client now.client
    → slice_get s.commands number ≡ Some command
    → HasEnded (setup_of s) s.commands now number command (λ start end told. EndsAs (setup_of s) start command told (chunks_of (start.sessions + 1) now))

-- AND ALL ARRIVES: when it ends, what has arrived at each end are the packets that the other end flushed, in order.
abbrev pub LosslessRunsArrive : Type 0
LosslessRunsArrive =
    (s : Script) (now : World) → IsLosslessScript s → Turned (setup_of s) s.commands now
    → IsLegal demo_rule (setup_of s).server now.server → IsLegal quiet_rule (setup_of s).client now.client → HasAllArrived (setup_of s) now
