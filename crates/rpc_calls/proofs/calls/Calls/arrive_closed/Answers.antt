use Rattle.std.proofs.Common.{◌∙◌, ◌+◌, ◌≤◌, length, ap, sym, subst}
use Rattle.std.specs.VecDeque.{deque_capacity}
use Rattle.rpc_journal.specs.declared.answers.Arrived.TheVariants.{Closed}
use Rattle.rpc_journal.specs.declared.entry.EntryKind.TheVariants.{Arrive}
use Rattle.rpc_journal.specs.History.{adding}
use Rattle.rpc_journal.specs.Rows.{closed_row, ends_and_clears}
use Rattle.rpc_journal.specs.CallTable.{past}
use Rattle.rpc_calls.specs.Arrivals.{CanTake, IsLiveCall, Took}
use Rattle.rpc_calls.specs.Owed.{items_of}
use Rattle.rpc_journal.specs.Conditions.{IsInputOpen}
use Rattle.rpc_calls.proofs.ArriveSteps.{Arrives, arrives_closed, live_place, live_status}
use Rattle.rpc_calls.proofs.calls.Calls.arrive_closed.Goals as goal

pub close-requires-clause-live : goal.close-requires-clause-live
close-requires-clause-live g c = λ r is. live_status _ _ _ _ _ _ _ _ _ r c.self.invariant.stands (subst (λ t. IsLiveCall (past t) c.args.call) (sym c.self.view_is) c.requires.live) is

pub close-requires-clause-place : goal.close-requires-clause-place
close-requires-clause-place g c = λ r is.
    live_place _ _ _ _ _ _ _ _ _ _ _ r c.self.invariant (subst (λ t. IsInputOpen t.setting t.entries c.args.seat) (sym c.self.view_is) c.requires.take.input) (subst (λ t. IsLiveCall (past t) c.args.call) (sym c.self.view_is) c.requires.live) is

-- The table after the packet.
arrived : (g : _) (c : goal.After-push g)
    → Arrives g.H.Acts.now g.H.Acts.can_act g.H.Handler.rule c.self.inside.setting c.self.inside.journal c.push.new.self c.args.seat c.args.p.now (closed_row c.args.call (ends_and_clears c.args.call c.args.status)).answer c.close.new.self.states c.self.inside.calls.handlers c.take_room.new.items.items (deque_capacity c.take_room.new.items)
arrived g c =
    arrives_closed g.H.Acts.now g.H.Acts.can_act g.H.Handler.rule c.self.inside.setting c.self.inside.journal c.push.new.self c.args.seat c.args.call c.len-at.result c.args.p.now c.args.status c.self.inside.calls.states c.close.new.self.states c.self.inside.calls.handlers c.self.inside.items.items c.take_room.new.items.items _ (deque_capacity c.take_room.new.items) c.take_room.new.journal.spare c.self.invariant
    (subst (λ t. CanTake t.setting t.entries c.args.seat c.args.p.now (closed_row c.args.call (ends_and_clears c.args.call c.args.status))) (sym c.self.view_is) c.requires.take)
    (subst (λ t. IsLiveCall (past t) c.args.call) (sym c.self.view_is) c.requires.live) c.len-at.ensures.len c.close.ensures.change c.close.ensures.outside.unflushed c.close.ensures.outside.input c.close.ensures.outside.halt c.close.ensures.outside.newest c.close.ensures.outside.closed c.in_ok-take_room.ensures.items
    (c.push.ensures.entries ∙ ap (λ es. adding es c.args.seat (Arrive c.in_ok-packet.packet)) c.in_ok-take_room.ensures.entries ∙ ap (λ q. adding c.self.inside.journal.entries c.args.seat (Arrive q)) c.in_ok-packet.ensures)
    c.push.ensures.spare
    (subst (λ o. length c.self.inside.items.items + items_of o + 0 ≤ deque_capacity c.take_room.new.items) c.owed.ensures.counts c.in_ok-take_room.ensures.places)
    (subst (λ o. length c.self.inside.items.items + items_of o + 0 + (o.uncancelled + o.running + 2) + 1 ≤ c.take_room.new.journal.spare) c.owed.ensures.counts c.in_ok-take_room.ensures.records)

pub invariant_of-self-2 : goal.invariant_of-self-2
invariant_of-self-2 g c = rw c.close.ensures.handlers (arrived g c).table

pub returns-clause-took : goal.returns-clause-took
returns-clause-took g c =
    subst (λ t. Took g.H.Handler.rule t.setting c.args.seat c.args.p.now (Closed c.args.call) t.entries c.push.new.self.entries) c.self.view_is
    (arrived g c).took
