use Rattle.std.proofs.Common.{rules, ◌∙◌, ap, tests}
use Rattle.std.proofs.lemmas.Iterator.{YieldsList-from_slice}
use Rattle.std.proofs.lemmas.Iterator.Search.{find_from_yields_List}
use Rattle.rpc_ids.specs.Registry.{has_ids, method_of}
use Rattle.rpc_ids.proofs.registry.Registry.find.Goals as goal

pub returns-clause-value : goal.returns-clause-value
returns-clause-value c =
    let e = find_from_yields_List (has_ids c.args.service c.args.method) _ _ c.find.result c.find.ensures.ran (YieldsList-from_slice c.self.inside.methods.items cc) (λ x b q k. search (rules, tests)) in
    c.copied.ensures ∙ (e ∙ ap (λ rows. method_of rows c.args.service c.args.method) c.self.view_is)
