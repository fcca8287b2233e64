use Rattle.std.proofs.Common.{◌≡◌, false, Some, is_some, sym, subst}
use Rattle.std.specs.VecDeque.{deque_capacity}
use Rattle.rpc_calls.specs.TableHolds.{IsTable}
use Rattle.rpc_calls.proofs.CalmSteps.{table_halted}
use Rattle.rpc_calls.proofs.calls.Calls.halt.Goals as goal

-- The table after the halt.
halted : (g : _) (c : goal.After-push g)
    → IsTable g.H.Acts.now g.H.Acts.can_act g.H.Handler.rule c.self.inside.setting c.push.new.self (record c.self.inside.calls.states { halted = Some c.args.why }) c.self.inside.calls.handlers c.self.inside.items.items (deque_capacity c.self.inside.items)
halted g c =
    table_halted _ _ _ _ _ _ _ _ _ _ _ _ c.self.invariant (subst (λ o. is_some o ≡ false) c.halted.ensures c.if-is_none.ensures) c.requires c.push.ensures.entries c.push.ensures.spare

pub invariant_of-self : goal.invariant_of-self
invariant_of-self g c =
    rw c.halt.ensures.handlers (subst (λ t. IsTable g.H.Acts.now g.H.Acts.can_act g.H.Handler.rule c.self.inside.setting c.push.new.self t c.self.inside.calls.handlers c.self.inside.items.items (deque_capacity c.self.inside.items)) (sym c.halt.ensures.states)
    (halted g c))

pub returns-then-is_none-clause-legal : goal.returns-then-is_none-clause-legal
returns-then-is_none-clause-legal g c = (halted g c).legal
