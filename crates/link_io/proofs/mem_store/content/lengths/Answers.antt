use Rattle.std.proofs.Common.{rules, ◌≡◌, ◌∙◌, ap}
use Rattle.std.specs.Map.{keys_of}
use Rattle.std.proofs.lemmas.Map.Keys.{IsStrictlyIncreasing-from_sorted}
use Rattle.link_io.specs.Resources.{lengths_of}
use Rattle.link_io.proofs.ResourceLemmas.{ids_of_lengths}
use Rattle.link_io.proofs.mem_store.content.lengths.Goals as goal

pub returns-clause-rises : goal.returns-clause-rises
returns-clause-rises c =
    let rows : c.resources.rows ≡ lengths_of c.args.map.now.entries = search rules in
    let ids : keys_of c.resources.rows ≡ keys_of c.args.map.now.entries = ap keys_of rows ∙ ids_of_lengths c.args.map.now.entries in
    rw ids (IsStrictlyIncreasing-from_sorted _ c.into_iter-resource-iterator.ensures.into_iter_gives.5)
