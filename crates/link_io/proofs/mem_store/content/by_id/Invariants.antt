use Rattle.std.proofs.Common.{◌≡◌, [], drop}
use Rattle.link_io.specs.Resources.{with_resources}
use Rattle.link_io.proofs.mem_store.content.by_id.Given as goal

abbrev pub invariant-rows : goal.invariant-rows
invariant-rows l = with_resources (drop l.id-index l.id-items) l.map.entries ≡ with_resources l.id-items []
