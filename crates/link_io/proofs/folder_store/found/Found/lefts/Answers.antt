use Rattle.std.proofs.Common.{rules, ◌≡◌}
use Rattle.std.proofs.lemmas.Map.Keys.{IsStrictlyIncreasing-from_sorted}
use Rattle.link_io.proofs.folder_store.found.Found.lefts.Goals as goal

pub returns : goal.returns
returns c =
    let rows : c.resources.rows ≡ c.args.self.now.left.entries = search rules in
    rw rows (IsStrictlyIncreasing-from_sorted _ c.into_iter-resource-iterator.ensures.into_iter_gives.5)
