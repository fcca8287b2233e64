use Rattle.std.proofs.Common.{◌≡◌, ◌-◌, ◌≤◌, take}
use Rattle.link_laws.specs.world.Setup.{world_channels}
use Rattle.link_world.proofs.server.channels.world_channels.Given as goal

abbrev pub invariant-loop-id : goal.invariant-loop-id
invariant-loop-id l = (1 ≤ l.id) × (l.id ≤ 9) × (l.channels ≡ take (l.id - 1) world_channels)
