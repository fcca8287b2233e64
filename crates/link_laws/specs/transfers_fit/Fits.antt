-- What fits: the resources of the client's store, and the transfers that start.
use Rattle.std.specs.Prelude.{◌≡◌, ℕ, ◌<◌, ◌≤◌, ◌^◌, List, [], length}
use Rattle.std.specs.List.{AllByRecursion}
use Rattle.link_io.specs.Resources.{Resources}
use Rattle.link_io.specs.Stored.{Stored}
use Rattle.link_script.specs.declared.command.Command.{Command}
use Rattle.link_script.specs.Script.{IsCommand}
use Rattle.rpc_ids.specs.declared.method.Role.TheVariants.{Client}
use Rattle.transfer_base.specs.declared.limits.TheConstants.{MAX_RESOURCE}
use Rattle.link_laws.specs.world.Turns.{Turned, Turns}
use Rattle.link_laws.specs.world.World.{Setup, World, client_store, first_world}
use Rattle.link_laws.specs.okay_means_bytes.Okay.{NextFits, Throughout}

-- each has at most as many bytes as a resource may have
abbrev pub AreSmall : Resources → Type 0
AreSmall rows = AllByRecursion (λ e. length e.1 ≤ MAX_RESOURCE) rows

pub record IsSmall (s : Stored) : Type 0 where
  pub full : AreSmall s.full
  pub left : AreSmall s.left

-- a client, which begins with such a store, in which nothing is under way
pub record BeginsSmall (k : Setup) : Type 0 where
  pub client : k.client.role ≡ Client
  pub small : IsSmall k.client_store
  pub no_work : k.client_store.work ≡ []

-- THE CLIENT'S STORE STAYS SO, whatever the link does
abbrev pub StoresStaySmall : Type 0
StoresStaySmall =
    (k : Setup) (commands : List Command) (count : ℕ) (w : World) → BeginsSmall k → AllByRecursion IsCommand commands → Turns k count (first_world commands) w
    → IsSmall (client_store k w)

-- and so each transfer fits that starts in a run of fewer than 2^32 commands
abbrev pub FitsThroughout : Type 0
FitsThroughout =
    (k : Setup) (commands : List Command) (now : World) → BeginsSmall k → AllByRecursion IsCommand commands → length commands < 2 ^ 32 → (run : Turned k commands now)
    → Throughout k commands now (NextFits k) run
