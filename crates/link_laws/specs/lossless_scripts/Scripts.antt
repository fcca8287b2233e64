-- A script that closes no channel, and how many sessions a run of it begins.
use Rattle.std.specs.Prelude.{◌+◌, ◌≤◌, List, count_by}
use Rattle.std.specs.List.{AllByRecursion}
use Rattle.link_script.specs.declared.command.Command.{Command}
use Rattle.link_script.specs.declared.command.Command.TheVariants.{Close}
use Rattle.link_script.specs.declared.script.Script.{Script}
use Rattle.link_script.specs.Script.{IsStock}
use Rattle.transfer_resume.specs.declared.side.Side.TheVariants.{Read}
use Rattle.link_laws.specs.world.Setup.{script_chunk, script_window}
use Rattle.link_laws.specs.world.World.{World}
use Rattle.link_laws.specs.plain_calls.Between.{asks_for}
use Rattle.link_laws.specs.transfers_fit.Scripts.{IsScript}

abbrev pub LeavesOpen : Command → Type 0
LeavesOpen (Close channel) = ⊥
LeavesOpen _ = Unit {0}

-- It closes no channel, and has no more reads than a call may have sessions. What its link does is open.
pub record IsOpenScript (s : Script) : Type 0 where
  pub script : IsScript s
  pub server : AllByRecursion IsStock s.server
  pub window : 1 ≤ script_window s
  pub chunk : 1 ≤ script_chunk s
  pub closes_none : AllByRecursion LeavesOpen s.commands
  pub few_reads : count_by (asks_for Read) s.commands ≤ 256

-- THE RUN OF THESE COMMANDS BEGINS NO MORE SESSIONS OF WRITES than a call may have. Each read begins a session, and each write does whose
-- resource the client has as it starts; so the sessions that the client has begun in the last world are those of the reads, and these.
abbrev pub BeginsFewWrites : List Command → World → Type 0
BeginsFewWrites commands now = now.sessions ≤ count_by (asks_for Read) commands + 256
