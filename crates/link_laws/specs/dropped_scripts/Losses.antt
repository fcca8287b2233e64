-- Over a link that drops chunks each transfer ends well, where one of its first four rounds is clean.
use Rattle.std.specs.Prelude.{◌≡◌, ℕ, suc, ◌+◌, ◌*◌, ◌≤◌, min, List, length, slice_get, Some}
use Rattle.link_io.specs.Resources.{first_of, found}
use Rattle.link_io.specs.Stored.{shelf_of}
use Rattle.link_script.specs.declared.command.Command.{Command}
use Rattle.link_script.specs.declared.command.Command.TheVariants.{Read, Write}
use Rattle.link_script.specs.declared.report.ReportLine.TheVariants as line
use Rattle.link_script.specs.declared.script.Script.{Script}
use Rattle.rpc_journal.specs.Lawful.{IsLegal}
use Rattle.transfer_resume.specs.Opening.{agreed_offset}
use Rattle.demo_services.specs.DemoRule.{demo_rule}
use Rattle.transfer_laws.specs.losses.InTime.{WRITE_WAITS, read_turns, write_turns}
use Rattle.transfer_laws.specs.losses.Rounds.{LOSSY_ROUNDS}
use Rattle.transfer_laws.specs.pairs.Bound.{need}
use Rattle.link_laws.specs.world.Setup.{quiet_rule, setup_of}
use Rattle.link_laws.specs.world.Starts.{left_length}
use Rattle.link_laws.specs.world.Turns.{Turned, Turns, next_kind, starting}
use Rattle.link_laws.specs.world.World.{Setup, World, client_store, first_world}
use Rattle.link_laws.specs.plain_calls.Ended.{EndsSoon, HasEnded}
use Rattle.link_laws.specs.lossless_scripts.Scripts.{BeginsFewWrites}
use Rattle.link_laws.specs.lossless_scripts.Scripts.{IsOpenScript}
use Rattle.link_laws.specs.dropped_transfer.Dropped.{DropsChunks}
use Rattle.link_laws.specs.dropped_transfer.InTime.{HasEndedInTime}
use Rattle.link_laws.specs.dropped_transfer.Rounds.{AreSpared, AreSparedBefore}

-- EACH COMMAND OF A SCRIPT THAT CLOSES NO CHANNEL COMES TO ITS LINE, in each run of it that begins few writes and in which nothing is
-- lost but chunks, none of them a confirmation of a read, where each transfer up to it is spared; and each transfer to a line with OK,
-- within three turns of time
abbrev pub LossyRunsEndWell : Type 0
LossyRunsEndWell =
    (s : Script) (now : World) (number : ℕ) (command : Command) → IsOpenScript s → DropsChunks (setup_of s) now → AreSparedBefore (suc number) (setup_of s) s.commands now → Turned (setup_of s) s.commands now
    → BeginsFewWrites s.commands now → IsLegal demo_rule (setup_of s).server now.server → IsLegal quiet_rule (setup_of s).client now.client
    → slice_get s.commands number ≡ Some command → HasEnded (setup_of s) s.commands now number command (λ start end told. EndsSoon (setup_of s) start end command told)

-- AND A RUN IN WHICH EACH TRANSFER IS SPARED takes at most three turns of time for each command
abbrev pub LossyRunsEndInTime : Type 0
LossyRunsEndInTime =
    (s : Script) (now : World) → IsOpenScript s → DropsChunks (setup_of s) now → AreSpared (setup_of s) s.commands now → Turned (setup_of s) s.commands now
    → BeginsFewWrites s.commands now → IsLegal demo_rule (setup_of s).server now.server → IsLegal quiet_rule (setup_of s).client now.client
    → now.times ≤ LOSSY_ROUNDS * length s.commands

-- turns lead from this world to one of which this holds
pub record TurnsTo (k : Setup) (start : World) (Holds : World → Type 0) : Type 0 where
  pub mid : World
  pub count : ℕ
  pub way : Turns k count start mid
  pub holds : Holds mid

-- A TRANSFER THAT STARTS IN THIS WORLD COMES TO ITS LINE IN TIME, with OK or DEADLINE_EXCEEDED: a read of a resource that the server has, from
-- an offset in it, and a write of one that the client has.
abbrev pub EndsInTime : Setup → World → Command → Type 0
EndsInTime k start (Read resource offset) =
    let asked = min offset (left_length k start resource) in
    (bytes : List ℕ) → first_of resource k.server_store.full ≡ Some bytes → asked ≤ length bytes
    → TurnsTo k start (HasEndedInTime start (line.Read resource) (read_turns (need (length bytes) asked k.chunk)))
EndsInTime k start (Write resource offset) =
    (bytes : List ℕ) → found resource (client_store k start).full ≡ Some bytes
    → let agreed = agreed_offset (shelf_of k.server_store) resource (min offset (length bytes)) in
    TurnsTo k start (HasEndedInTime start (line.Write resource) (write_turns (need (length bytes) agreed k.chunk) + WRITE_WAITS))
EndsInTime k start command = Unit {0}

-- the command with this number has started in a world of the run, and does so
pub record HasEndedInRun (k : Setup) (commands : List Command) (number : ℕ) (command : Command) : Type 0 where
  pub start : World
  pub count : ℕ
  pub way : Turns k count (first_world commands) start
  pub coming : List Command
  pub before : length start.lines ≡ number
  pub starts : next_kind start ≡ starting command coming
  pub ends : EndsInTime k start command

-- HOWEVER MANY CHUNKS OF ITS OWN ARE DROPPED, a transfer behind others that were spared comes to its line in time
abbrev pub NextEndsInTime : Type 0
NextEndsInTime =
    (s : Script) (now : World) (number : ℕ) (command : Command) → IsOpenScript s → DropsChunks (setup_of s) now → AreSparedBefore number (setup_of s) s.commands now → Turned (setup_of s) s.commands now
    → BeginsFewWrites s.commands now → IsLegal demo_rule (setup_of s).server now.server → IsLegal quiet_rule (setup_of s).client now.client
    → slice_get s.commands number ≡ Some command → HasEndedInRun (setup_of s) s.commands number command

-- THREE LOSSES SPARE EACH TRANSFER of any run, whichever they are
abbrev pub FewLossesSpareEach : Type 0
FewLossesSpareEach = (k : Setup) (commands : List Command) (now : World) → length k.losses ≤ LOSSY_ROUNDS → AreSpared k commands now
