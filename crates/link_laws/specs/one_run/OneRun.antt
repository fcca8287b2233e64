-- Commands have one run.
use Rattle.std.specs.Prelude.{◌≡◌, List, IsTrue}
use Rattle.link_script.specs.declared.command.Command.{Command}
use Rattle.link_laws.specs.world.Limits.{IsPastFrames}
use Rattle.link_laws.specs.world.Turns.{Turn, Turned}
use Rattle.link_laws.specs.world.World.{Setup, World}

-- where the service's handlers are ruled, a world has one next turn
abbrev pub TurnsAreOne : Type 0
TurnsAreOne = (k : Setup) (w a b : World) → IsTrue k.rule.ruled → Turn k w a → Turn k w b → a ≡ b

-- and so the run of commands leads to one world
abbrev pub RunsAreOne : Type 0
RunsAreOne = (k : Setup) (commands : List Command) (a b : World) → IsTrue k.rule.ruled → Turned k commands a → Turned k commands b → a ≡ b

-- and where they have one, no beginning of it meets the limit of deliveries
abbrev pub RunsStayWithin : Type 0
RunsStayWithin = (k : Setup) (commands : List Command) (now : World) → IsTrue k.rule.ruled → Turned k commands now → IsPastFrames k commands → ⊥
