use Rattle.std.proofs.Common.{◌<◌, length, sym, subst, arith}
use Rattle.rpc_journal.specs.table.Touch.{cancelling}
use Rattle.rpc_journal.specs.table.Turns.{Turns}
use Rattle.rpc_calls.specs.Indexed.{IsIndexed}
use Rattle.rpc_calls.specs.Places.{ChangesAt}
use Rattle.rpc_calls.specs.RunEnds.{CutsHandler}
use Rattle.rpc_calls.specs.Outside.{SameOutside}
use Rattle.rpc_calls.proofs.EndSteps.{cuts_left, kept_alike, used_left}
use Rattle.rpc_calls.proofs.IndexSteps.{can_reindex, index_changed}
use Rattle.rpc_calls.proofs.indexed_states.IndexedStates.cancel.Goals as goal

pub marks-is-requires : goal.marks-is-requires
marks-is-requires g c = omega (arith, (subst (λ t. c.args.call < length t.states.calls.items) (sym c.self.view_is) c.requires), (c.cancel_one.ensures.change 0).many)

pub change-requires : goal.change-requires
change-requires g c = can_reindex c.self.inside.calls.states.calls.items c.self.inside.index c.args.call c.marks-was.result c.self.invariant.indexed (subst (λ t. c.args.call < length t.states.calls.items) (sym c.self.view_is) c.requires) c.marks-was.ensures.marks

pub invariant_of-self : goal.invariant_of-self
invariant_of-self g c = record {
  indexed = subst (λ ss. IsIndexed ss.calls.items c.change.new.self) (sym c.leave_if_done.ensures.leaves.states)
      (index_changed (λ r x. Turns 0 (cancelling r.status) r x) c.self.inside.calls.states.calls.items c.cancel_one.new.calls.states.calls.items c.self.inside.index c.change.new.self c.args.call c.marks-was.result c.marks-is.result c.self.invariant.indexed
      (subst (λ t. c.args.call < length t.states.calls.items) (sym c.self.view_is) c.requires) (c.cancel_one.ensures.change 0) c.marks-was.ensures.marks c.marks-is.ensures.marks c.change.ensures);
  kept = c.leave_if_done.ensures.kept (kept_alike c.self.inside.kept c.self.inside.calls.places c.cancel_one.new.calls.places c.self.invariant.kept c.cancel_one.ensures.kept);
  used = used_left c.args.call c.self.inside.calls c.cancel_one.new.calls c.leave_if_done.new.calls c.self.invariant.used
      (λ k apart. c.cancel_one.ensures.kept k) (λ k apart. (c.cancel_one.ensures.change 0).others k apart) c.leave_if_done.ensures.leaves;
}

pub returns-clause-change : goal.returns-clause-change
returns-clause-change g c = λ at.
    subst (λ t. ChangesAt c.args.call (λ r x. Turns at (cancelling r.status) r x) t.states.calls.items c.leave_if_done.new.calls.states.calls.items) c.self.view_is
    (subst (λ ss. ChangesAt c.args.call (λ r x. Turns at (cancelling r.status) r x) c.self.inside.calls.states.calls.items ss.calls.items) (sym c.leave_if_done.ensures.leaves.states) (c.cancel_one.ensures.change at))

pub returns-clause-outside : goal.returns-clause-outside
returns-clause-outside g c =
    subst (λ t. SameOutside t.states c.leave_if_done.new.calls.states) c.self.view_is
    (subst (λ ss. SameOutside c.self.inside.calls.states ss) (sym c.leave_if_done.ensures.leaves.states) c.cancel_one.ensures.outside)

pub returns-clause-handlers : goal.returns-clause-handlers
returns-clause-handlers g c =
    subst (λ t. CutsHandler c.args.call t c.leave_if_done.new.calls.handlers) c.self.view_is
    (cuts_left c.args.call c.self.inside.calls c.cancel_one.new.calls c.leave_if_done.new.calls (c.cancel_one.ensures.change 0) c.cancel_one.ensures.handlers c.leave_if_done.ensures.leaves
    (let within = (subst (λ t. c.args.call < length t.states.calls.items) (sym c.self.view_is) c.requires) in omega (arith, within, c.len.ensures.handled)))
