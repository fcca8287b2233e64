use Rattle.std.proofs.Common.{◌∙◌, ap, sym, subst, IsNone}
use Rattle.rpc_ids.specs.Registry.{method_of, FindsEach}
use Rattle.rpc_ids.proofs.RegistryLemmas.{added_is_found, finds_each_added}
use Rattle.rpc_ids.proofs.registry.Registry.insert.Goals as goal

pub returns-in-Ok-clause-found : goal.returns-in-Ok-clause-found
returns-in-Ok-clause-found c =
    let none : IsNone (method_of c.self.inside.methods.items c.args.row.service c.args.row.method) = cc in
    ap (λ rows. method_of rows c.args.row.service c.args.row.method) c.in-Ok.ensures.items ∙ added_is_found c.self.inside.methods.items c.args.row none

pub invariant_of-self : goal.invariant_of-self
invariant_of-self c =
    let none : IsNone (method_of c.self.inside.methods.items c.args.row.service c.args.row.method) = cc in
    subst FindsEach (sym c.in-Ok.ensures.items) (finds_each_added c.self.inside.methods.items c.args.row none c.self.invariant)
