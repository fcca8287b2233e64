use Rattle.std.proofs.Common.{◌≡◌, Some, sym, subst}
use Rattle.slab.specs.Slab.{get}
use Rattle.task_core.proofs.dispatcher.Dispatcher.result.Goals as goal

pub returns : goal.returns
returns g c = λ log stands.
    let found : get c.args.self.now.places c.args.key ≡ Some c.index.result.now = subst (λ v. get v.places c.args.key ≡ Some c.index.result.now) c.self.view_is c.index.ensures in
    sym (stands.tells c.args.key c.index.result.now found).result
