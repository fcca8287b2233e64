use Rattle.std.proofs.Common.{rules, ◌≡◌}
use Rattle.std.specs.Map.{keys_of}
use Rattle.std.proofs.lemmas.Map.Keys.{IsStrictlyIncreasing-from_sorted}
use Rattle.link_io.proofs.folder_store.found.Found.fulls.Goals as goal

pub returns : goal.returns
returns g c =
    let ids : keys_of c.resources.rows ≡ keys_of c.args.self.now.full.entries = search rules in
    rw ids (IsStrictlyIncreasing-from_sorted _ c.into_iter-resource-iterator.ensures.into_iter_gives.5)
