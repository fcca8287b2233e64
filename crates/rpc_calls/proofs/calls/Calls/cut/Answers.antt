use Rattle.std.proofs.Common.{◌≡◌, ◌∙◌, false, Some, is_some, slice_get, ap, sym, subst, arith}
use Rattle.std.specs.VecDeque.{deque_capacity}
use Rattle.rpc_journal.specs.declared.table.call_state.CallState.{CallState}
use Rattle.rpc_journal.specs.Calls.{is_cancelled}
use Rattle.rpc_journal.specs.Conditions.{IsCall}
use Rattle.rpc_journal.specs.CallTable.{past}
use Rattle.rpc_journal.specs.table.Agrees.{AgreesOnCalls}
use Rattle.rpc_journal.proofs.PlaceLemmas.{get_some, some_same}
use Rattle.rpc_calls.specs.TableHolds.{IsTable}
use Rattle.rpc_calls.proofs.CancelSteps.{table_cancelled, cut_room}
use Rattle.rpc_calls.proofs.calls.Calls.cut.Goals as goal

cut_row : (g : _) (c : goal.After-push g) → (r : CallState) × (slice_get c.self.inside.calls.states.calls.items c.args.call ≡ Some r)
cut_row g c =
    let call = subst (λ t. IsCall t.setting t.entries c.args.call) (sym c.self.view_is) c.requires.call in
    get_some c.self.inside.calls.states.calls.items c.args.call (omega (arith, call.below, c.self.invariant.stands.agrees.calls.many))

pub cancel_call-requires-clause-room : goal.cancel_call-requires-clause-room
cancel_call-requires-clause-room g c = omega (
  arith,
  c.self.inside.items.ok.0,
  (cut_room (past c.args.self.now) c.self.inside.calls.states c.self.inside.items.items c.args.call c.self.inside.journal.spare (deque_capacity c.self.inside.items)
      (subst (λ t. AgreesOnCalls (past t) c.self.inside.calls.states.calls.items) c.self.view_is c.self.invariant.stands.agrees.calls) c.self.invariant.room c.requires.call.below c.requires.uncut).0,
)

pub push-requires : goal.push-requires
push-requires g c = λ none. omega (
  arith,
  none,
  (cut_room (past c.args.self.now) c.self.inside.calls.states c.self.inside.items.items c.args.call c.self.inside.journal.spare (deque_capacity c.self.inside.items)
      (subst (λ t. AgreesOnCalls (past t) c.self.inside.calls.states.calls.items) c.self.view_is c.self.invariant.stands.agrees.calls) c.self.invariant.room c.requires.call.below c.requires.uncut).1,
)

-- The table after the cut.
cut : (g : _) (c : goal.After-push g)
    → IsTable g.H.Acts.now g.H.Acts.can_act g.H.Handler.rule c.self.inside.setting c.push.new.self c.cancel_call.new.states.states c.cancel_call.new.states.handlers c.cancel_call.new.items.items (deque_capacity c.cancel_call.new.items)
cut g c =
    let row = cut_row g c in
    table_cancelled g.H.Acts.now g.H.Acts.can_act g.H.Handler.rule c.self.inside.setting c.self.inside.journal c.push.new.self c.args.seat c.args.call c.self.inside.calls.states c.cancel_call.new.states.states c.self.inside.calls.handlers c.cancel_call.new.states.handlers c.self.inside.items.items c.cancel_call.new.items.items (is_some row.0.run) (deque_capacity c.self.inside.items) (deque_capacity c.cancel_call.new.items) c.self.invariant
    (subst (λ t. IsCall t.setting t.entries c.args.call) (sym c.self.view_is) c.requires.call)
    (subst (λ t. is_cancelled (past t) c.args.call ≡ false) (sym c.self.view_is) c.requires.uncut)
    (λ r is. ap (λ (q : CallState). is_some q.run) (some_same row.0 r (sym row.1 ∙ is)))
    (record {
      says = c.cancel_call.ensures.items;
      change = c.cancel_call.ensures.change;
      unflushed = c.cancel_call.ensures.unflushed;
      newest = c.cancel_call.ensures.newest;
      input = c.cancel_call.ensures.input;
      halt = c.cancel_call.ensures.halt;
      closed = c.cancel_call.ensures.closed;
      many = c.cancel_call.ensures.handlers.many;
      others = c.cancel_call.ensures.handlers.others;
      kept = λ slot there. c.cancel_call.ensures.handlers.kept slot row.0 there row.1;
    })
    c.cancel_call.ensures.capacity c.push.ensures.entries c.push.ensures.spare

pub invariant_of-self : goal.invariant_of-self
invariant_of-self = cut

pub returns-clause-legal : goal.returns-clause-legal
returns-clause-legal g c = (cut g c).legal
