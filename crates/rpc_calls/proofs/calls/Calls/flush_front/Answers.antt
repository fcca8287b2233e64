use Rattle.std.proofs.Common.{◌≡◌, ◌∙◌, ◌++◌, true, false, is_some, option_to_list, Some, None, sym, subst}
use Rattle.std.specs.VecDeque.{deque_capacity}
use Rattle.rpc_journal.specs.Changes.{FlushDid}
use Rattle.rpc_calls.specs.TableHolds.{IsTable}
use Rattle.rpc_calls.proofs.FlushSteps.{flushes_front, flushes_none, nothing_waits, halted_waits}
use Rattle.rpc_calls.proofs.PlaceChanges.{no_elements}
use Rattle.rpc_calls.proofs.calls.Calls.flush_front.Goals as goal

pub returns-then-is_some-clause-did : goal.returns-then-is_some-clause-did
returns-then-is_some-clause-did g c =
    subst (λ t. FlushDid t.setting c.args.seat None t.entries t.entries) c.self.view_is
    (flushes_none g.H.Acts.now g.H.Acts.can_act g.H.Handler.rule c.self.inside.setting c.self.inside.journal c.args.seat
    (halted_waits _ _ _ _ _ _ _ _ c.self.invariant.stands (subst (λ o. is_some o ≡ true) c.halted.ensures (sym c.if-is_some.ensures))))

pub returns-then-is_empty-clause-did : goal.returns-then-is_empty-clause-did
returns-then-is_empty-clause-did g c =
    subst (λ t. FlushDid t.setting c.args.seat None t.entries t.entries) c.self.view_is
    (flushes_none g.H.Acts.now g.H.Acts.can_act g.H.Handler.rule c.self.inside.setting c.self.inside.journal c.args.seat
    (nothing_waits _ _ _ _ _ _ _ _ c.self.invariant.stands (no_elements _ _ c.self.inside.items.ok.0 c.if-is_empty.ensures)))

-- The table after the flush.
flushed : (g : _) (c : goal.After-push g)
    → IsTable g.H.Acts.now g.H.Acts.can_act g.H.Handler.rule c.self.inside.setting c.push.new.self c.set_unflushed.new.self.states c.self.inside.calls.handlers c.pop_front.new.self.items (deque_capacity c.pop_front.new.self)
    × FlushDid c.self.inside.setting c.args.seat (Some c.unwrap-item.result) c.self.inside.journal.entries c.push.new.self.entries
flushed g c =
    flushes_front _ _ _ _ c.self.inside.journal c.push.new.self _ c.self.inside.calls.states c.set_unflushed.new.self.states _ c.self.inside.items.items c.unwrap-item.result c.pop_front.new.self.items c.len.result _ _ c.self.invariant
    (subst (λ o. c.self.inside.items.items ≡ option_to_list o ++ c.pop_front.new.self.items) c.unwrap-item.ensures c.pop_front.ensures.items)
    (subst (λ o. is_some o ≡ false) c.halted.ensures (sym c.if-is_some.ensures)) c.requires c.set_unflushed.ensures.states (c.len.ensures ∙ c.pop_front.new.self.ok.0) c.pop_front.ensures.capacity c.push.ensures.entries c.push.ensures.spare

pub invariant_of-self : goal.invariant_of-self
invariant_of-self g c = rw c.set_unflushed.ensures.handlers (flushed g c).0

pub returns-clause-did : goal.returns-clause-did
returns-clause-did g c =
    subst (λ t. FlushDid t.setting c.args.seat (Some c.unwrap-item.result) t.entries c.push.new.self.entries) c.self.view_is (flushed g c).1

pub returns-clause-legal : goal.returns-clause-legal
returns-clause-legal g c = (flushed g c).0.legal
