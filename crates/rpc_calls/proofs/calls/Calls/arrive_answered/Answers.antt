use Rattle.std.proofs.Common.{◌∙◌, ◌+◌, ◌≤◌, length, ap, sym, subst}
use Rattle.std.specs.VecDeque.{deque_capacity}
use Rattle.rpc_journal.specs.declared.answers.Arrived.TheVariants.{Closed}
use Rattle.rpc_journal.specs.declared.entry.EntryKind.TheVariants.{Arrive}
use Rattle.rpc_journal.specs.History.{adding, history}
use Rattle.rpc_journal.specs.Rows.{both_effects, closed_row, ends_call, puts_event}
use Rattle.rpc_journal.specs.CallTable.{past}
use Rattle.rpc_calls.specs.Arrivals.{CanTake, IsLiveCall, Took}
use Rattle.rpc_calls.specs.Owed.{items_of}
use Rattle.rpc_journal.specs.table.Touch.{answering}
use Rattle.rpc_calls.specs.Places.{ChangesAt}
use Rattle.rpc_journal.specs.table.Turns.{Turns}
use Rattle.rpc_calls.proofs.ArriveSteps.{Arrives, live_status, table_roomier}
use Rattle.rpc_calls.proofs.ClientArrivals.{arrives_answered}
use Rattle.rpc_handlers.specs.declared.event.Event.TheVariants.{Message}
use Rattle.rpc_calls.proofs.InUseSteps.{live_used}
use Rattle.rpc_calls.proofs.WiderSteps.{table_widened}
use Rattle.rpc_calls.proofs.calls.Calls.arrive_answered.Goals as goal

pub widen-requires-clause-used : goal.widen-requires-clause-used
widen-requires-clause-used g c = λ r is. live_used r
    (live_status g.H.Acts.now g.H.Acts.can_act g.H.Handler.rule c.self.inside.setting (history c.self.inside.setting c.self.inside.journal.entries) c.self.inside.calls.states c.self.inside.calls.handlers c.self.inside.items.items c.args.call r
    c.self.invariant.stands
    (subst (λ t. IsLiveCall (past t) c.args.call) (sym c.self.view_is) c.requires.live) is)

pub invariant_of-self : goal.invariant_of-self
invariant_of-self g c =
    rw c.widen.ensures.handlers
    ((table_widened g.H.Acts.now g.H.Acts.can_act g.H.Handler.rule c.self.inside.setting c.self.inside.journal c.args.call c.self.inside.calls.states c.widen.new.self.states c.self.inside.calls.handlers c.self.inside.items.items (deque_capacity c.self.inside.items) c.self.invariant c.in_err-widen.ensures.same))

pub invariant_of-self-in_err-take_room : goal.invariant_of-self-in_err-take_room
invariant_of-self-in_err-take_room g c =
    rw c.widen.ensures.handlers
    (table_roomier _ _ _ _ c.self.inside.journal _ _ _ c.self.inside.items.items _ (deque_capacity c.self.inside.items) _
    (table_widened g.H.Acts.now g.H.Acts.can_act g.H.Handler.rule c.self.inside.setting c.self.inside.journal c.args.call c.self.inside.calls.states c.widen.new.self.states c.self.inside.calls.handlers c.self.inside.items.items (deque_capacity c.self.inside.items) c.self.invariant c.in_ok-widen.ensures.same)
    c.in_err-take_room.ensures.entries c.in_err-take_room.ensures.spare c.in_err-take_room.ensures.items c.in_err-take_room.ensures.capacity)

pub invariant_of-self-in_err-packet : goal.invariant_of-self-in_err-packet
invariant_of-self-in_err-packet g c =
    rw c.widen.ensures.handlers
    (table_roomier _ _ _ _ c.self.inside.journal _ _ _ c.self.inside.items.items _ (deque_capacity c.self.inside.items) _
    (table_widened g.H.Acts.now g.H.Acts.can_act g.H.Handler.rule c.self.inside.setting c.self.inside.journal c.args.call c.self.inside.calls.states c.widen.new.self.states c.self.inside.calls.handlers c.self.inside.items.items (deque_capacity c.self.inside.items) c.self.invariant c.in_ok-widen.ensures.same)
    c.in_ok-take_room.ensures.entries c.in_ok-take_room.ensures.spare c.in_ok-take_room.ensures.items c.in_ok-take_room.ensures.capacity)

pub answer-requires-clause-live : goal.answer-requires-clause-live
answer-requires-clause-live g c = λ r is.
    live_status g.H.Acts.now g.H.Acts.can_act g.H.Handler.rule c.self.inside.setting (history c.self.inside.setting c.self.inside.journal.entries) c.widen.new.self.states c.self.inside.calls.handlers c.self.inside.items.items c.args.call r
    (table_widened g.H.Acts.now g.H.Acts.can_act g.H.Handler.rule c.self.inside.setting c.self.inside.journal c.args.call c.self.inside.calls.states c.widen.new.self.states c.self.inside.calls.handlers c.self.inside.items.items (deque_capacity c.self.inside.items) c.self.invariant c.in_ok-widen.ensures.same).stands
    (subst (λ t. IsLiveCall (past t) c.args.call) (sym c.self.view_is) c.requires.live) is

-- The table after the packet.
arrived : (g : _) (c : goal.After-push g)
    → Arrives g.H.Acts.now g.H.Acts.can_act g.H.Handler.rule c.self.inside.setting c.self.inside.journal c.push.new.self c.args.seat c.args.p.now (closed_row c.args.call (both_effects (puts_event c.args.call (Message c.args.p.now.payload)) (ends_call c.args.call c.args.status))).answer c.answer.new.self.states c.self.inside.calls.handlers c.take_room.new.items.items (deque_capacity c.take_room.new.items)
arrived g c =
    arrives_answered g.H.Acts.now g.H.Acts.can_act g.H.Handler.rule c.self.inside.setting c.self.inside.journal c.push.new.self c.args.seat c.args.call c.len-at.result c.args.p.now (Message c.args.p.now.payload) c.args.status c.widen.new.self.states c.answer.new.self.states c.self.inside.calls.handlers c.self.inside.items.items c.take_room.new.items.items _ (deque_capacity c.take_room.new.items) c.take_room.new.journal.spare (table_widened g.H.Acts.now g.H.Acts.can_act g.H.Handler.rule c.self.inside.setting c.self.inside.journal c.args.call c.self.inside.calls.states c.widen.new.self.states c.self.inside.calls.handlers c.self.inside.items.items (deque_capacity c.self.inside.items) c.self.invariant c.in_ok-widen.ensures.same)
    (subst (λ t. CanTake t.setting t.entries c.args.seat c.args.p.now (closed_row c.args.call (both_effects (puts_event c.args.call (Message c.args.p.now.payload)) (ends_call c.args.call c.args.status)))) (sym c.self.view_is) c.requires.take)
    (subst (λ t. IsLiveCall (past t) c.args.call) (sym c.self.view_is) c.requires.live) c.len-at.ensures.len
    (subst (λ e. ChangesAt c.args.call (Turns c.len-at.result (answering (Message e) c.args.status)) c.widen.new.self.states.calls.items c.answer.new.self.states.calls.items) c.in_ok-packet.ensures.1 c.answer.ensures.change) c.answer.ensures.outside.unflushed c.answer.ensures.outside.input c.answer.ensures.outside.halt c.answer.ensures.outside.newest c.answer.ensures.outside.closed c.in_ok-take_room.ensures.items
    (c.push.ensures.entries ∙ ap (λ es. adding es c.args.seat (Arrive c.in_ok-packet.packet)) c.in_ok-take_room.ensures.entries ∙ ap (λ q. adding c.self.inside.journal.entries c.args.seat (Arrive q)) c.in_ok-packet.ensures.0)
    c.push.ensures.spare
    (subst (λ o. length c.self.inside.items.items + items_of o + 0 ≤ deque_capacity c.take_room.new.items) c.owed.ensures.counts c.in_ok-take_room.ensures.places)
    (subst (λ o. length c.self.inside.items.items + items_of o + 0 + (o.uncancelled + o.running + 2) + 1 ≤ c.take_room.new.journal.spare) c.owed.ensures.counts c.in_ok-take_room.ensures.records)

pub invariant_of-self-2 : goal.invariant_of-self-2
invariant_of-self-2 g c = rw (c.answer.ensures.handlers, c.widen.ensures.handlers) (arrived g c).table

pub returns-clause-took : goal.returns-clause-took
returns-clause-took g c =
    subst (λ t. Took g.H.Handler.rule t.setting c.args.seat c.args.p.now (Closed c.args.call) t.entries c.push.new.self.entries) c.self.view_is
    (arrived g c).took
