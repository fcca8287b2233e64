use Rattle.std.proofs.Common.{◌≡◌, drop}
use Rattle.link_io.specs.Resources.{first_of}
use Rattle.link_io.proofs.shelf.Lefts.get.Given as goal

abbrev pub invariant-loop-id : goal.invariant-loop-id
invariant-loop-id l = first_of l.resource (drop l.id-index l.id-items) ≡ first_of l.resource l.id-items
