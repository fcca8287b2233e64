-- What arrives at one end was sent by the other.
use Rattle.std.specs.Prelude.{ℕ, List, All, Contains}
use Rattle.std.specs.List.{AllByRecursion}
use Rattle.link_script.specs.declared.command.Command.{Command}
use Rattle.link_script.specs.declared.loss.Loss.{Loss}
use Rattle.link_script.specs.declared.loss.Loss.TheVariants.{Flip}
use Rattle.rpc_ids.specs.declared.method.Role.TheVariants.{Server, Client}
use Rattle.rpc_frames.specs.Written.{IsSendable}
use Rattle.rpc_journal.specs.Items.{arrivals}
use Rattle.link_laws.specs.world.Turns.{Turned}
use Rattle.link_laws.specs.world.World.{Setup, World, packets_flushed}

-- each packet that arrived at one end is among those that the other end flushed
pub record IsSound (k : Setup) (w : World) : Type 0 where
  pub server : All (Contains (packets_flushed k.client w.client)) (arrivals w.server)
  pub client : All (Contains (packets_flushed k.server w.server)) (arrivals w.client)

abbrev pub IsNoFlip : Loss → Type 0
IsNoFlip (Flip bit) = ⊥
IsNoFlip _ = Unit {0}

-- the link damages nothing
abbrev pub NoFlips : List (ℕ × Loss) → Type 0
NoFlips losses = AllByRecursion (λ l. IsNoFlip l.1) losses

-- each packet that went out is one that the other end hears, in a frame that isn't too long for it
pub record AreSendable (k : Setup) (w : World) : Type 0 where
  pub server : AllByRecursion (IsSendable Client) (packets_flushed k.server w.server)
  pub client : AllByRecursion (IsSendable Server) (packets_flushed k.client w.client)

-- a run in which nothing is damaged is sound, whatever is lost, repeated and kept back
abbrev pub SoundWithoutFlips : Type 0
SoundWithoutFlips =
    (k : Setup) (commands : List Command) (now : World) → NoFlips k.losses → Turned k commands now → AreSendable k now → IsSound k now
