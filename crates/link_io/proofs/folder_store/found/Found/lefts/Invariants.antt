use Rattle.std.proofs.Common.{◌≡◌, ◌++◌}
use Rattle.link_io.proofs.folder_store.found.Found.lefts.Given as goal

abbrev pub invariant-resources : goal.invariant-resources
invariant-resources l = l.rows ++ l.resource-iterator ≡ l.self.left.entries
