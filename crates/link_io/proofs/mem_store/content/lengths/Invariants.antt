use Rattle.std.proofs.Common.{◌≡◌, ◌++◌}
use Rattle.link_io.specs.Resources.{lengths_of}
use Rattle.link_io.proofs.mem_store.content.lengths.Given as goal

abbrev pub invariant-resources : goal.invariant-resources
invariant-resources l = l.rows ++ lengths_of l.resource-iterator ≡ lengths_of l.map.entries
