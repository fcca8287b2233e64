use Rattle.std.proofs.Common.{sym, subst}
use Rattle.std.specs.VecDeque.{deque_capacity}
use Rattle.rpc_journal.specs.Conditions.{IsInputOpen}
use Rattle.rpc_calls.specs.TableHolds.{IsTable}
use Rattle.rpc_calls.proofs.EndInSteps.{table_ended}
use Rattle.rpc_calls.proofs.calls.Calls.end_in.Goals as goal

-- The table after the end of the input.
ended : (g : _) (c : goal.After-push g)
    → IsTable g.H.Acts.now g.H.Acts.can_act g.H.Handler.rule c.self.inside.setting c.push.new.self c.end_in.new.self.states c.self.inside.calls.handlers c.self.inside.items.items (deque_capacity c.self.inside.items)
ended g c =
    table_ended g.H.Acts.now g.H.Acts.can_act g.H.Handler.rule c.self.inside.setting c.self.inside.journal c.push.new.self c.args.seat c.len-at.result c.self.inside.calls.states c.end_in.new.self.states c.self.inside.calls.handlers c.self.inside.items.items (deque_capacity c.self.inside.items) c.self.invariant
    (subst (λ t. IsInputOpen t.setting t.entries c.args.seat) (sym c.self.view_is) c.requires)
    c.len-at.ensures.len c.end_in.ensures.calls c.end_in.ensures.unflushed c.end_in.ensures.input c.end_in.ensures.halt c.end_in.ensures.newest c.end_in.ensures.closed
    c.push.ensures.entries c.push.ensures.spare

pub invariant_of-self : goal.invariant_of-self
invariant_of-self g c = rw c.end_in.ensures.handlers (ended g c)

pub returns-clause-legal : goal.returns-clause-legal
returns-clause-legal g c = (ended g c).legal
