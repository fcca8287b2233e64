-- A command has come to its line, and what it came to.
use Rattle.std.specs.Prelude.{◌≡◌, ◌+◌, ◌≤◌, ℕ, min, List, length, slice_get, Some, None}
use Rattle.link_io.specs.Resources.{first_of, found}
use Rattle.link_io.specs.Stored.{shelf_of}
use Rattle.link_script.specs.declared.command.Command.{Command}
use Rattle.link_script.specs.declared.command.Command.TheVariants.{Read, Write}
use Rattle.link_script.specs.declared.report.ReportLine.{ReportLine}
use Rattle.link_script.specs.declared.report.ReportLine.TheVariants as line
use Rattle.rpc_ids.specs.declared.Status.TheVariants.{Okay}
use Rattle.transfer_resume.specs.Opening.{agreed_offset}
use Rattle.transfer_laws.specs.losses.Rounds.{LOSSY_ROUNDS}
use Rattle.link_laws.specs.world.Starts.{left_length}
use Rattle.link_laws.specs.world.Turns.{Turns, kind_at_rest, next_kind, starting}
use Rattle.link_laws.specs.world.World.{Setup, World, client_store, first_world}
use Rattle.link_laws.specs.plain_calls.Commands.{IsLineOf}

-- WHAT A TRANSFER THAT STARTS IN THIS WORLD COMES TO: this line was told. A read whose resource the server has, from an offset in it,
-- ends with OK, and so does a write whose resource the client has. Other commands may come to any line.
abbrev pub EndsOkay : Setup → World → Command → ReportLine → Type 0
EndsOkay k start (Read resource offset) told =
    let asked = min offset (left_length k start resource) in
    (bytes : List ℕ) → first_of resource k.server_store.full ≡ Some bytes → asked ≤ length bytes → (size : ℕ) × (told ≡ line.Read resource asked Okay size)
EndsOkay k start (Write resource offset) told =
    (bytes : List ℕ) → found resource (client_store k start).full ≡ Some bytes
    → (size : ℕ) × (told ≡ line.Write resource (agreed_offset (shelf_of k.server_store) resource (min offset (length bytes))) Okay size)
EndsOkay k start command told = Unit {0}

-- so it is, at most three turns of time later
pub record EndsSoon (k : Setup) (start end : World) (command : Command) (told : ReportLine) : Type 0 where
  pub okay : EndsOkay k start command told
  pub soon : end.times ≤ start.times + LOSSY_ROUNDS

-- The command with this number has started in a world of the run in which each command before it had its line, and has come to its
-- own by a later one, in which the next command starts, or the run ends. Between these two worlds, with this line, the command has ended
-- so.
pub record HasEnded (k : Setup) (commands : List Command) (now : World) (number : ℕ) (command : Command) (EndsSo : World → World → ReportLine → Type 0) : Type 0 where
  pub start : World
  pub end : World
  pub count : ℕ
  pub way : Turns k count (first_world commands) start
  pub coming : List Command
  pub before : length start.lines ≡ number
  pub starts : next_kind start ≡ starting command coming
  pub turns : ℕ
  pub goes : Turns k turns start end
  pub over : next_kind end ≡ kind_at_rest None coming
  pub told : ReportLine
  pub is_of : IsLineOf command told
  pub line_is : slice_get now.lines number ≡ Some told
  pub ends : EndsSo start end told
