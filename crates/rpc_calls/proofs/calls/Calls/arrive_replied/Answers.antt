use Rattle.std.proofs.Common.{◌∙◌, ◌+◌, ◌≤◌, length, refl, ap, sym, subst}
use Rattle.std.specs.VecDeque.{deque_capacity}
use Rattle.rpc_journal.specs.declared.answers.Arrived.TheVariants.{Answered}
use Rattle.rpc_journal.specs.declared.table.call_states.CallStates.{CallStates}
use Rattle.rpc_journal.specs.declared.entry.EntryKind.TheVariants.{Arrive}
use Rattle.rpc_journal.specs.History.{adding}
use Rattle.rpc_journal.specs.Rows.{replied_row}
use Rattle.rpc_calls.specs.Arrivals.{CanTake, Took}
use Rattle.rpc_calls.specs.Owed.{items_of, owed_by}
use Rattle.std.proofs.Common.{◌++◌}
use Rattle.rpc_calls.proofs.ArriveSteps.{Arrives, arrives_replied}
use Rattle.rpc_calls.proofs.calls.Calls.arrive_replied.Goals as goal

-- The table after the packet.
arrived : (g : _) (c : goal.After-push g)
    → Arrives g.H.Acts.now g.H.Acts.can_act g.H.Handler.rule c.self.inside.setting c.self.inside.journal c.push.new.self c.args.seat c.args.p.now (replied_row c.args.ptype c.args.p.now c.args.status).answer c.set_unflushed.new.self.states c.self.inside.calls.handlers c.reply.new.items.items (deque_capacity c.reply.new.items)
arrived g c =
    arrives_replied g.H.Acts.now g.H.Acts.can_act g.H.Handler.rule c.self.inside.setting c.self.inside.journal c.push.new.self c.args.seat c.args.ptype c.args.p.now c.args.status c.self.inside.calls.states c.set_unflushed.new.self.states c.self.inside.calls.handlers c.self.inside.items.items c.reply.new.items.items _ (deque_capacity c.reply.new.items) c.take_room.new.journal.spare c.self.invariant
    (subst (λ t. CanTake t.setting t.entries c.args.seat c.args.p.now (replied_row c.args.ptype c.args.p.now c.args.status)) (sym c.self.view_is) c.requires)
    (c.reply.ensures.items c.args.p.now refl ∙ ap (λ xs. xs ++ (replied_row c.args.ptype c.args.p.now c.args.status).does.says) c.in_ok-take_room.ensures.items)
    (ap (λ (t : CallStates). t.calls.items) c.set_unflushed.ensures.states) (ap (λ (t : CallStates). t.unflushed) c.set_unflushed.ensures.states ∙ c.len.ensures ∙ c.reply.new.items.ok.0)
    (ap (λ (t : CallStates). t.input_ended) c.set_unflushed.ensures.states) (ap (λ (t : CallStates). t.halted) c.set_unflushed.ensures.states) (ap (λ (t : CallStates). t.newest) c.set_unflushed.ensures.states) (ap (λ (t : CallStates). t.closed.items) c.set_unflushed.ensures.states)
    (c.push.ensures.entries ∙ ap (λ es. adding es c.args.seat (Arrive c.in_ok-packet.packet)) c.in_ok-take_room.ensures.entries ∙ ap (λ q. adding c.self.inside.journal.entries c.args.seat (Arrive q)) c.in_ok-packet.ensures)
    c.push.ensures.spare
    (subst (λ n. length c.self.inside.items.items + items_of (owed_by c.self.inside.calls.states.calls.items) + 1 ≤ n) (sym c.reply.ensures.capacity) (subst (λ o. length c.self.inside.items.items + items_of o + 1 ≤ deque_capacity c.take_room.new.items) c.owed.ensures.counts c.in_ok-take_room.ensures.places))
    (subst (λ o. length c.self.inside.items.items + items_of o + 1 + (o.uncancelled + o.running + 2) + 1 ≤ c.take_room.new.journal.spare) c.owed.ensures.counts c.in_ok-take_room.ensures.records)

pub invariant_of-self-2 : goal.invariant_of-self-2
invariant_of-self-2 g c = rw c.set_unflushed.ensures.handlers (arrived g c).table

pub returns-clause-took : goal.returns-clause-took
returns-clause-took g c =
    subst (λ t. Took g.H.Handler.rule t.setting c.args.seat c.args.p.now Answered t.entries c.push.new.self.entries) c.self.view_is
    (arrived g c).took
