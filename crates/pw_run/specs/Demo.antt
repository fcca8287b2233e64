-- What the recorded commands serve: the demo service on channels 1 to 8, over the resources that a store lists.
use Rattle.std.specs.Prelude.{ℕ, List, []}
use Rattle.link_io.specs.declared.shelf.Shelf.{Shelf}
use Rattle.rpc_ids.specs.declared.method.Role.TheVariants.{Server}
use Rattle.rpc_journal.specs.declared.setting.Setting.{Setting}
use Rattle.demo_services.specs.Methods.{demo_methods}
use Rattle.demo_services.specs.Transfer.{demo_seed}
use Rattle.link_laws.specs.world.Setup.{world_channels}

-- those of a world
abbrev pub demo_channels : List ℕ
demo_channels = world_channels

-- what a store without a resource lists
abbrev pub no_shelf : Shelf
no_shelf = record { full = []; left = [] }

-- what is fixed with the server's history
abbrev pub demo_setting : Shelf → Setting
demo_setting shelf = record { role = Server; channels = demo_channels; registry = demo_methods; seed = demo_seed shelf 4 256 }
