-- What is heard in a run, and what OK means in the run of a script.
use Rattle.std.specs.Prelude.{◌≡◌, ◌<◌, ◌≤◌, ◌^◌, List, length}
use Rattle.std.specs.List.{AllByRecursion}
use Rattle.link_script.specs.declared.command.Command.{Command}
use Rattle.link_script.specs.declared.script.Script.{Script}
use Rattle.link_script.specs.Script.{IsCommand, IsStock}
use Rattle.rpc_ids.specs.declared.method.Role.TheVariants.{Server, Client}
use Rattle.rpc_journal.specs.Lawful.{IsLegal}
use Rattle.transfer_base.specs.declared.limits.TheConstants.{MAX_CHUNK, MAX_WINDOW}
use Rattle.demo_services.specs.DemoRule.{demo_rule}
use Rattle.link_laws.specs.world.Setup.{quiet_rule, script_chunk, script_window, setup_of}
use Rattle.link_laws.specs.world.Sound.{AreSendable, IsSound, NoFlips}
use Rattle.link_laws.specs.world.Turns.{Turned}
use Rattle.link_laws.specs.world.World.{Setup, World}
use Rattle.link_laws.specs.okay_means_bytes.Okay.{LinesHoldFrom, Throughout}

-- a script whose numbers fit: those of its transfers, of the client's resources and of its commands
pub record IsScript (s : Script) : Type 0 where
  pub window : script_window s ≤ MAX_WINDOW
  pub chunk : script_chunk s ≤ MAX_CHUNK
  pub client : AllByRecursion IsStock s.client
  pub left_client : AllByRecursion IsStock s.left_client
  pub commands : AllByRecursion IsCommand s.commands
  pub few : length s.commands < 2 ^ 32

-- over links that damage nothing each packet that has gone out is one that the other end hears, where both histories are
-- legal
abbrev pub RunsAreHeard : Type 0
RunsAreHeard =
    (k : Setup) (commands : List Command) (now : World) → k.server.role ≡ Server → k.client.role ≡ Client → NoFlips k.losses → length commands < 2 ^ 32 → Turned k commands now
    → IsLegal k.rule k.server now.server → IsLegal quiet_rule k.client now.client → AreSendable k now

-- OK MEANS THE BYTES in each run of a script that is sound in each world of it, whatever the link does
abbrev pub SoundScriptsMeanTheBytes : Type 0
SoundScriptsMeanTheBytes =
    (s : Script) (now : World) → IsScript s → (run : Turned (setup_of s) s.commands now) → IsLegal demo_rule (setup_of s).server now.server
    → Throughout (setup_of s) s.commands now (IsSound (setup_of s)) run → LinesHoldFrom (setup_of s) s.commands now 0 now.lines

-- and so in each run of a script whose losses damage no frame
abbrev pub ScriptsMeanTheBytes : Type 0
ScriptsMeanTheBytes =
    (s : Script) (now : World) → IsScript s → NoFlips s.losses → Turned (setup_of s) s.commands now → IsLegal demo_rule (setup_of s).server now.server → IsLegal quiet_rule (setup_of s).client now.client
    → LinesHoldFrom (setup_of s) s.commands now 0 now.lines
