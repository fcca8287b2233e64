use Rattle.std.proofs.Common.{◌≡◌, ◌∙◌, ◌+◌, ◌≤◌, length, ap, sym, subst, arith}
use Rattle.std.specs.VecDeque.{deque_capacity}
use Rattle.rpc_journal.specs.declared.answers.Arrived.TheVariants.{Opened}
use Rattle.rpc_journal.specs.declared.entry.EntryKind.TheVariants.{Arrive}
use Rattle.rpc_journal.specs.Calls.{call_count}
use Rattle.rpc_journal.specs.History.{adding, history}
use Rattle.rpc_journal.specs.Rows.{opened_row, opens_served}
use Rattle.rpc_journal.specs.table.Newest.{newest_of}
use Rattle.rpc_journal.specs.CallTable.{past}
use Rattle.rpc_calls.specs.Arrivals.{CanTake, Took}
use Rattle.rpc_calls.specs.Owed.{items_of}
use Rattle.rpc_calls.proofs.ArriveSteps.{Arrives}
use Rattle.rpc_calls.proofs.OpenTables.{arrives_opened, table_kept}
use Rattle.rpc_calls.proofs.calls.Calls.arrive_opened.Goals as goal

pub invariant_of-self-in-Err : goal.invariant_of-self-in-Err
invariant_of-self-in-Err g c =
    table_kept g.H.Acts.now g.H.Acts.can_act g.H.Handler.rule c.self.inside.setting c.self.inside.journal c.take_room.new.journal c.self.inside.calls.states c.open.new.self.states c.self.inside.calls.handlers c.open.new.self.handlers c.self.inside.items.items c.take_room.new.items.items (deque_capacity c.self.inside.items) (deque_capacity c.take_room.new.items) c.self.invariant
    c.in-Err.ensures.err.handlers c.in-Err.ensures.err.calls (λ name. ap (λ m. newest_of m name) c.in-Err.ensures.err.outside.newest) c.in-Err.ensures.rest c.in_ok-take_room.ensures.entries c.in_ok-take_room.ensures.spare c.in_ok-take_room.ensures.items c.in_ok-take_room.ensures.capacity

-- The table after the packet.
arrived : (g : _) (c : goal.After-push g)
    → Arrives g.H.Acts.now g.H.Acts.can_act g.H.Handler.rule c.self.inside.setting c.self.inside.journal c.push.new.self c.args.seat c.args.p.now (opened_row (call_count (history c.self.inside.setting c.self.inside.journal.entries)) (opens_served c.args.p.now c.args.method (call_count (history c.self.inside.setting c.self.inside.journal.entries)))).answer c.open.new.self.states c.open.new.self.handlers c.take_room.new.items.items (deque_capacity c.take_room.new.items)
arrived g c =
    arrives_opened g.H.Acts.now g.H.Acts.can_act g.H.Handler.rule c.self.inside.setting c.self.inside.journal c.push.new.self c.args.seat c.len-at.result c.args.p.now c.args.method c.in_ok-packet.state c.args.handler c.self.inside.calls.states c.open.new.self.states c.self.inside.calls.handlers c.open.new.self.handlers c.self.inside.items.items c.take_room.new.items.items _ (deque_capacity c.take_room.new.items) c.take_room.new.journal.spare c.self.invariant
    (subst (λ t. CanTake t.setting t.entries c.args.seat c.args.p.now (opened_row (call_count (past t)) (opens_served c.args.p.now c.args.method (call_count (past t))))) (sym c.self.view_is) c.requires.take)
    c.len-at.ensures.len c.in_ok-packet.ensures.state c.in_ok-packet.ensures.place
    (omega (arith, c.if-call-ge-MAX_CALLS.false, c.count-call.ensures)) c.requires.able
    (subst (λ t. g.H.Acts.now c.args.handler ≡ g.H.Handler.rule.first t.setting.seed c.args.method) (sym c.self.view_is) c.requires.first)
    c.in_default.ensures.calls c.in_default.ensures.newest c.in_default.ensures.rest
    c.in_default.ensures.handlers c.in_ok-take_room.ensures.items
    (c.push.ensures.entries ∙ ap (λ es. adding es c.args.seat (Arrive c.in_ok-packet.packet)) c.in_ok-take_room.ensures.entries ∙ ap (λ q. adding c.self.inside.journal.entries c.args.seat (Arrive q)) c.in_ok-packet.ensures.packet)
    c.push.ensures.spare
    (subst (λ o. length c.self.inside.items.items + items_of o + 2 ≤ deque_capacity c.take_room.new.items) c.owed.ensures.counts c.in_ok-take_room.ensures.places)
    (subst (λ o. length c.self.inside.items.items + items_of o + 2 + (o.uncancelled + o.running + 2) + 2 ≤ c.take_room.new.journal.spare) c.owed.ensures.counts c.in_ok-take_room.ensures.records)

pub invariant_of-self-2 : goal.invariant_of-self-2
invariant_of-self-2 g c = (arrived g c).table

pub returns-clause-took : goal.returns-clause-took
returns-clause-took g c =
    subst (λ t. Took g.H.Handler.rule t.setting c.args.seat c.args.p.now (Opened c.count-call.result) t.entries c.push.new.self.entries) c.self.view_is
    (subst (λ n. Took g.H.Handler.rule c.self.inside.setting c.args.seat c.args.p.now (Opened n) c.self.inside.journal.entries c.push.new.self.entries) (sym (c.count-call.ensures ∙ c.self.invariant.stands.agrees.calls.many))
    (arrived g c).took)
