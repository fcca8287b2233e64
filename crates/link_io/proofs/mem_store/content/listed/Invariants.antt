use Rattle.std.proofs.Common.{◌≡◌, ◌++◌}
use Rattle.link_io.proofs.mem_store.content.listed.Given as goal

abbrev pub invariant-resources : goal.invariant-resources
invariant-resources l = l.rows ++ l.resource-iterator ≡ l.map.entries
