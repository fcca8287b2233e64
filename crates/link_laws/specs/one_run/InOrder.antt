-- Over a link that loses nothing all that is sent arrives, in order.
use Rattle.std.specs.Prelude.{◌≡◌, List, []}
use Rattle.link_script.specs.declared.command.Command.{Command}
use Rattle.rpc_journal.specs.Items.{arrivals}
use Rattle.link_laws.specs.world.Sound.{AreSendable}
use Rattle.link_laws.specs.world.Turns.{Turned}
use Rattle.link_laws.specs.world.World.{Setup, World, packets_flushed}

-- what arrived at each end are the packets that the other end flushed, in order
pub record HasAllArrived (k : Setup) (w : World) : Type 0 where
  pub server : arrivals w.server ≡ packets_flushed k.client w.client
  pub client : arrivals w.client ≡ packets_flushed k.server w.server

-- so it is where nothing is left to do but the end
abbrev pub NothingIsLost : Type 0
NothingIsLost =
    (k : Setup) (commands : List Command) (now : World) → k.losses ≡ [] → (run : Turned k commands now) → AreSendable k now → HasAllArrived k run.before
