use Rattle.std.proofs.Common.{◌==◌, not, subst, sym, rules, arith}
use Rattle.std.proofs.lemmas.Fn.{filter_same}
use Rattle.rpc_channel.specs.Rising.{IsRising}
use Rattle.rpc_channel.proofs.Order.{IsRising-filter}
use Rattle.rpc_channel.proofs.channels.Channels.remove.Goals as goal

pub returns-clause-left : goal.returns-clause-left
returns-clause-left c =
    rw (← c.self.view_is) (filter_same _ (λ x. not (x == c.args.id)) _ (λ x b f h. search rules) _ _ c.retain.ensures.filtered)

pub invariant_of-self : goal.invariant_of-self
invariant_of-self c = (
  subst IsRising (sym (returns-clause-left c)) (IsRising-filter _ _ (subst IsRising c.self.view_is c.self.invariant.0)),
  omega (arith, c.retain.ensures.bound, c.self.invariant.1),
)
