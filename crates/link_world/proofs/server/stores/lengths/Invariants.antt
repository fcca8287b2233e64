use Rattle.std.proofs.Common.{◌≡◌, take}
use Rattle.link_io.specs.Resources.{lengths_of}
use Rattle.link_world.proofs.server.stores.lengths.Given as goal

abbrev pub invariant-loop-id : goal.invariant-loop-id
invariant-loop-id l = l.lengths ≡ lengths_of (take l.id-index l.id-items)
