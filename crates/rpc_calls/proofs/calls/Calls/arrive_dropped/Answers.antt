use Rattle.std.proofs.Common.{◌∙◌, ◌+◌, ◌≤◌, length, ap, sym, subst}
use Rattle.std.specs.VecDeque.{deque_capacity}
use Rattle.rpc_journal.specs.declared.answers.Arrived.TheVariants.{Dropped}
use Rattle.rpc_journal.specs.declared.entry.EntryKind.TheVariants.{Arrive}
use Rattle.rpc_journal.specs.History.{adding}
use Rattle.rpc_journal.specs.Rows.{dropped_row}
use Rattle.rpc_calls.specs.Arrivals.{CanTake, Took}
use Rattle.rpc_calls.specs.Owed.{items_of}
use Rattle.rpc_calls.proofs.ArriveSteps.{arrives_dropped}
use Rattle.rpc_calls.proofs.calls.Calls.arrive_dropped.Goals as goal

pub invariant_of-self-2 : goal.invariant_of-self-2
invariant_of-self-2 g c =
    (arrives_dropped g.H.Acts.now g.H.Acts.can_act g.H.Handler.rule c.self.inside.setting c.self.inside.journal c.push.new.self c.args.seat c.args.p.now c.self.inside.calls.states c.self.inside.calls.handlers c.self.inside.items.items _ _ _ _ c.self.invariant
    (subst (λ t. CanTake t.setting t.entries c.args.seat c.args.p.now dropped_row) (sym c.self.view_is) c.requires)
    c.in_ok-take_room.ensures.items
    (c.push.ensures.entries ∙ ap (λ es. adding es c.args.seat (Arrive c.in_ok-packet.packet)) c.in_ok-take_room.ensures.entries ∙ ap (λ q. adding c.self.inside.journal.entries c.args.seat (Arrive q)) c.in_ok-packet.ensures)
    c.push.ensures.spare
    (subst (λ o. length c.self.inside.items.items + items_of o + 0 ≤ deque_capacity c.take_room.new.items) c.owed.ensures.counts c.in_ok-take_room.ensures.places)
    (subst (λ o. length c.self.inside.items.items + items_of o + 0 + (o.uncancelled + o.running + 2) + 1 ≤ c.take_room.new.journal.spare) c.owed.ensures.counts c.in_ok-take_room.ensures.records)).table

pub returns-clause-took : goal.returns-clause-took
returns-clause-took g c =
    subst (λ t. Took g.H.Handler.rule t.setting c.args.seat c.args.p.now Dropped t.entries c.push.new.self.entries) c.self.view_is
    (arrives_dropped g.H.Acts.now g.H.Acts.can_act g.H.Handler.rule c.self.inside.setting c.self.inside.journal c.push.new.self c.args.seat c.args.p.now c.self.inside.calls.states c.self.inside.calls.handlers c.self.inside.items.items _ _ (deque_capacity c.take_room.new.items) _ c.self.invariant
    (subst (λ t. CanTake t.setting t.entries c.args.seat c.args.p.now dropped_row) (sym c.self.view_is) c.requires)
    c.in_ok-take_room.ensures.items
    (c.push.ensures.entries ∙ ap (λ es. adding es c.args.seat (Arrive c.in_ok-packet.packet)) c.in_ok-take_room.ensures.entries ∙ ap (λ q. adding c.self.inside.journal.entries c.args.seat (Arrive q)) c.in_ok-packet.ensures)
    c.push.ensures.spare
    (subst (λ o. length c.self.inside.items.items + items_of o + 0 ≤ deque_capacity c.take_room.new.items) c.owed.ensures.counts c.in_ok-take_room.ensures.places)
    (subst (λ o. length c.self.inside.items.items + items_of o + 0 + (o.uncancelled + o.running + 2) + 1 ≤ c.take_room.new.journal.spare) c.owed.ensures.counts c.in_ok-take_room.ensures.records)).took
