-- Both ends of a world are at rest between its turns.
use Rattle.std.specs.Prelude.{◌≡◌, ℕ, List}
use Rattle.link_script.specs.declared.command.Command.{Command}
use Rattle.rpc_journal.specs.Lawful.{IsLawful}
use Rattle.history_laws.specs.rounds.Streams.{IsAtRest}
use Rattle.link_laws.specs.world.Sound.{NoFlips}
use Rattle.link_laws.specs.world.Turns.{Ends, Turns}
use Rattle.link_laws.specs.world.World.{Setup, World, client_deeds, first_world, server_deeds}

pub record AreAtRest (k : Setup) (w : World) : Type 0 where
  pub server : IsAtRest (server_deeds k w)
  pub client : IsAtRest (client_deeds k w)

-- So it is in each world that a run comes to, whatever the commands are and whatever the link loses, repeats and keeps back,
-- where both histories are lawful.
abbrev pub EndsRest : Type 0
EndsRest =
    (k : Setup) (commands : List Command) (count : ℕ) (w : World) → NoFlips k.losses → Turns k count (first_world commands) w
    → IsLawful k.server w.server → IsLawful k.client w.client → AreAtRest k w

-- As a run ends its handlers are told, and no frame is numbered.
abbrev pub EndsAreQuiet : Type 0
EndsAreQuiet =
    (k : Setup) (w now : World) → AreAtRest k w → Ends k w now → IsLawful k.server now.server → IsLawful k.client now.client → now.numbered ≡ w.numbered
