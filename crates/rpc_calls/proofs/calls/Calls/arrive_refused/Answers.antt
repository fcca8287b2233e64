use Rattle.std.proofs.Common.{◌∙◌, ◌+◌, ◌≤◌, ◌++◌, length, refl, ap, sym, subst}
use Rattle.std.specs.VecDeque.{deque_capacity}
use Rattle.rpc_journal.specs.declared.table.call_states.CallStates.{CallStates}
use Rattle.rpc_journal.specs.ClientTable.{refuses_stream}
use Rattle.rpc_journal.specs.declared.answers.Arrived.TheVariants.{Closed}
use Rattle.rpc_journal.specs.declared.entry.EntryKind.TheVariants.{Arrive}
use Rattle.rpc_journal.specs.History.{adding}
use Rattle.rpc_journal.specs.Rows.{closed_row}
use Rattle.rpc_journal.specs.CallTable.{past}
use Rattle.rpc_calls.specs.Arrivals.{CanTake, IsLiveCall, Took}
use Rattle.rpc_calls.specs.Owed.{items_of, owed_by}
use Rattle.rpc_calls.specs.Places.{ChangesAt}
use Rattle.rpc_ids.specs.declared.status.Status.TheVariants.{InvalidArgument}
use Rattle.rpc_journal.specs.table.Touch.{ending}
use Rattle.rpc_journal.specs.table.Turns.{Turns}
use Rattle.rpc_journal.specs.Conditions.{IsInputOpen}
use Rattle.rpc_calls.proofs.ArriveSteps.{Arrives, live_status}
use Rattle.rpc_calls.proofs.ClientArrivals.{arrives_refused, live_room}
use Rattle.rpc_calls.proofs.calls.Calls.arrive_refused.Goals as goal

pub end-requires-clause-live : goal.end-requires-clause-live
end-requires-clause-live g c = λ r is. live_status _ _ _ _ _ _ _ _ _ r c.self.invariant.stands (subst (λ t. IsLiveCall (past t) c.args.call) (sym c.self.view_is) c.requires.live) is

pub end-requires-clause-place : goal.end-requires-clause-place
end-requires-clause-place g c = λ r is.
    live_room _ _ _ _ _ _ _ _ _ _ _ r c.self.invariant (subst (λ t. IsInputOpen t.setting t.entries c.args.seat) (sym c.self.view_is) c.requires.take.input) (subst (λ t. IsLiveCall (past t) c.args.call) (sym c.self.view_is) c.requires.live) is

-- The table after the packet.
arrived : (g : _) (c : goal.After-push g)
    → Arrives g.H.Acts.now g.H.Acts.can_act g.H.Handler.rule c.self.inside.setting c.self.inside.journal c.push.new.self c.args.seat c.args.p.now (closed_row c.args.call (refuses_stream c.args.p.now c.args.call)).answer c.set_unflushed.new.self.states c.self.inside.calls.handlers c.refuse_stream.new.items.items (deque_capacity c.refuse_stream.new.items)
arrived g c =
    arrives_refused g.H.Acts.now g.H.Acts.can_act g.H.Handler.rule c.self.inside.setting c.self.inside.journal c.push.new.self c.args.seat c.args.call c.len-at.result c.args.p.now c.self.inside.calls.states c.set_unflushed.new.self.states c.self.inside.calls.handlers c.self.inside.items.items c.refuse_stream.new.items.items _ (deque_capacity c.refuse_stream.new.items) c.take_room.new.journal.spare c.self.invariant
    (subst (λ t. CanTake t.setting t.entries c.args.seat c.args.p.now (closed_row c.args.call (refuses_stream c.args.p.now c.args.call))) (sym c.self.view_is) c.requires.take)
    (subst (λ t. IsLiveCall (past t) c.args.call) (sym c.self.view_is) c.requires.live) c.len-at.ensures.len
    (subst (λ (t : CallStates). ChangesAt c.args.call (Turns c.len-at.result (ending InvalidArgument)) c.self.inside.calls.states.calls.items t.calls.items) (sym c.set_unflushed.ensures.states) c.end.ensures.change)
    (ap (λ (t : CallStates). t.unflushed) c.set_unflushed.ensures.states ∙ c.len.ensures ∙ c.refuse_stream.new.items.ok.0)
    (ap (λ (t : CallStates). t.input_ended) c.set_unflushed.ensures.states ∙ c.end.ensures.outside.input) (ap (λ (t : CallStates). t.halted) c.set_unflushed.ensures.states ∙ c.end.ensures.outside.halt) (ap (λ (t : CallStates). t.newest) c.set_unflushed.ensures.states ∙ c.end.ensures.outside.newest) (ap (λ (t : CallStates). t.closed.items) c.set_unflushed.ensures.states ∙ c.end.ensures.outside.closed)
    (c.refuse_stream.ensures.items c.args.p.now refl ∙ ap (λ xs. xs ++ (refuses_stream c.args.p.now c.args.call).says) c.in_ok-take_room.ensures.items)
    (c.push.ensures.entries ∙ ap (λ es. adding es c.args.seat (Arrive c.in_ok-packet.packet)) c.in_ok-take_room.ensures.entries ∙ ap (λ q. adding c.self.inside.journal.entries c.args.seat (Arrive q)) c.in_ok-packet.ensures)
    c.push.ensures.spare
    (subst (λ n. length c.self.inside.items.items + items_of (owed_by c.self.inside.calls.states.calls.items) + 1 ≤ n) (sym c.refuse_stream.ensures.capacity) (subst (λ o. length c.self.inside.items.items + items_of o + 1 ≤ deque_capacity c.take_room.new.items) c.owed.ensures.counts c.in_ok-take_room.ensures.places))
    (subst (λ o. length c.self.inside.items.items + items_of o + 1 + (o.uncancelled + o.running + 2) + 1 ≤ c.take_room.new.journal.spare) c.owed.ensures.counts c.in_ok-take_room.ensures.records)

pub invariant_of-self-2 : goal.invariant_of-self-2
invariant_of-self-2 g c = rw (c.set_unflushed.ensures.handlers, c.end.ensures.handlers) (arrived g c).table

pub returns-clause-took : goal.returns-clause-took
returns-clause-took g c =
    subst (λ t. Took g.H.Handler.rule t.setting c.args.seat c.args.p.now (Closed c.args.call) t.entries c.push.new.self.entries) c.self.view_is
    (arrived g c).took
