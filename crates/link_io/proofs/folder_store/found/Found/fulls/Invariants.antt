use Rattle.std.proofs.Common.{◌≡◌, ◌++◌}
use Rattle.std.specs.Map.{keys_of}
use Rattle.link_io.proofs.folder_store.found.Found.fulls.Given as goal

abbrev pub invariant-resources : goal.invariant-resources
invariant-resources g l = keys_of l.rows ++ keys_of l.resource-iterator ≡ keys_of l.self.full.entries
