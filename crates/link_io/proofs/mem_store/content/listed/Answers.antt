use Rattle.std.proofs.Common.{rules, ◌≡◌}
use Rattle.std.proofs.lemmas.Map.Keys.{IsStrictlyIncreasing-from_sorted}
use Rattle.link_io.proofs.mem_store.content.listed.Goals as goal

pub returns-clause-rises : goal.returns-clause-rises
returns-clause-rises c =
    let rows : c.resources.rows ≡ c.args.map.now.entries = search rules in
    rw rows (IsStrictlyIncreasing-from_sorted _ c.into_iter-resource-iterator.ensures.into_iter_gives.5)
