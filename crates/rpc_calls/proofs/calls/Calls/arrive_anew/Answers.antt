use Rattle.std.proofs.Common.{◌≡◌, ◌∙◌, ◌+◌, ◌≤◌, length, ap, sym, subst, arith}
use Rattle.std.specs.VecDeque.{deque_capacity}
use Rattle.rpc_ids.specs.declared.status.Status.TheVariants.{Cancelled}
use Rattle.rpc_journal.specs.declared.answers.Arrived.TheVariants.{Opened}
use Rattle.rpc_journal.specs.declared.entry.EntryKind.TheVariants.{Arrive}
use Rattle.rpc_journal.specs.Calls.{call_count}
use Rattle.rpc_journal.specs.Conditions.{IsInputOpen}
use Rattle.rpc_journal.specs.History.{adding, history}
use Rattle.rpc_journal.specs.Rows.{both_effects, ends_and_clears, opened_row, opens_served}
use Rattle.rpc_journal.specs.table.Newest.{newest_of}
use Rattle.rpc_journal.specs.CallTable.{past}
use Rattle.rpc_calls.specs.Arrivals.{CanTake, IsLiveCall, Took}
use Rattle.rpc_calls.specs.Owed.{items_of}
use Rattle.rpc_calls.proofs.ArriveSteps.{Arrives, live_place, live_status}
use Rattle.rpc_calls.proofs.OpenTables.{arrives_anew, table_kept}
use Rattle.rpc_calls.proofs.calls.Calls.arrive_anew.Goals as goal

pub open_anew-requires-clause-live : goal.open_anew-requires-clause-live
open_anew-requires-clause-live g c = λ r is. live_status _ _ _ _ _ _ _ _ _ r c.self.invariant.stands (subst (λ t. IsLiveCall (past t) c.args.old) (sym c.self.view_is) c.requires.live) is

pub open_anew-requires-clause-place : goal.open_anew-requires-clause-place
open_anew-requires-clause-place g c = λ r is.
    live_place _ _ _ _ _ _ _ _ _ _ _ r c.self.invariant (subst (λ t. IsInputOpen t.setting t.entries c.args.seat) (sym c.self.view_is) c.requires.take.input) (subst (λ t. IsLiveCall (past t) c.args.old) (sym c.self.view_is) c.requires.live) is

pub invariant_of-self-in_err-open_anew : goal.invariant_of-self-in_err-open_anew
invariant_of-self-in_err-open_anew g c =
    table_kept g.H.Acts.now g.H.Acts.can_act g.H.Handler.rule c.self.inside.setting c.self.inside.journal c.take_room.new.journal c.self.inside.calls.states c.open_anew.new.self.states c.self.inside.calls.handlers c.open_anew.new.self.handlers c.self.inside.items.items c.take_room.new.items.items (deque_capacity c.self.inside.items) (deque_capacity c.take_room.new.items) c.self.invariant
    c.in_err-open_anew.ensures.err.handlers c.in_err-open_anew.ensures.err.calls (λ name. ap (λ m. newest_of m name) c.in_err-open_anew.ensures.err.outside.newest) c.in_err-open_anew.ensures.rest c.in_ok-take_room.ensures.entries c.in_ok-take_room.ensures.spare c.in_ok-take_room.ensures.items c.in_ok-take_room.ensures.capacity

-- The table after the packet.
arrived : (g : _) (c : goal.After-push g)
    → Arrives g.H.Acts.now g.H.Acts.can_act g.H.Handler.rule c.self.inside.setting c.self.inside.journal c.push.new.self c.args.seat c.args.p.now (opened_row (call_count (history c.self.inside.setting c.self.inside.journal.entries)) (both_effects (ends_and_clears c.args.old Cancelled) (opens_served c.args.p.now c.args.method (call_count (history c.self.inside.setting c.self.inside.journal.entries))))).answer c.open_anew.new.self.states c.open_anew.new.self.handlers c.take_room.new.items.items (deque_capacity c.take_room.new.items)
arrived g c =
    arrives_anew g.H.Acts.now g.H.Acts.can_act g.H.Handler.rule c.self.inside.setting c.self.inside.journal c.push.new.self c.args.seat c.args.old c.len-at.result c.args.p.now c.args.method c.in_ok-packet.state c.args.handler c.self.inside.calls.states c.open_anew.new.self.states c.in_ok-open_anew.ensures.calls.between c.self.inside.calls.handlers c.open_anew.new.self.handlers c.self.inside.items.items c.take_room.new.items.items _ (deque_capacity c.take_room.new.items) c.take_room.new.journal.spare c.self.invariant
    (subst (λ t. CanTake t.setting t.entries c.args.seat c.args.p.now (opened_row (call_count (past t)) (both_effects (ends_and_clears c.args.old Cancelled) (opens_served c.args.p.now c.args.method (call_count (past t)))))) (sym c.self.view_is) c.requires.take)
    (subst (λ t. IsLiveCall (past t) c.args.old) (sym c.self.view_is) c.requires.live) c.len-at.ensures.len c.in_ok-packet.ensures.state c.in_ok-packet.ensures.place
    (omega (arith, c.if-call-ge-MAX_CALLS.false, c.count-call.ensures)) c.requires.able
    (subst (λ t. g.H.Acts.now c.args.handler ≡ g.H.Handler.rule.first t.setting.seed c.args.method) (sym c.self.view_is) c.requires.first)
    c.in_ok-open_anew.ensures.calls.ends
    c.in_ok-open_anew.ensures.calls.opens c.in_ok-open_anew.ensures.newest c.in_ok-open_anew.ensures.rest
    c.in_ok-open_anew.ensures.handlers c.in_ok-take_room.ensures.items
    (c.push.ensures.entries ∙ ap (λ es. adding es c.args.seat (Arrive c.in_ok-packet.packet)) c.in_ok-take_room.ensures.entries ∙ ap (λ q. adding c.self.inside.journal.entries c.args.seat (Arrive q)) c.in_ok-packet.ensures.packet)
    c.push.ensures.spare
    (subst (λ o. length c.self.inside.items.items + items_of o + 2 ≤ deque_capacity c.take_room.new.items) c.owed.ensures.counts c.in_ok-take_room.ensures.places)
    (subst (λ o. length c.self.inside.items.items + items_of o + 2 + (o.uncancelled + o.running + 2) + 2 ≤ c.take_room.new.journal.spare) c.owed.ensures.counts c.in_ok-take_room.ensures.records)

pub invariant_of-self-2 : goal.invariant_of-self-2
invariant_of-self-2 g c = (arrived g c).table

pub returns-clause-took : goal.returns-clause-took
returns-clause-took g c =
    subst (λ t. Took g.H.Handler.rule t.setting c.args.seat c.args.p.now (Opened c.count-call.result) t.entries c.push.new.self.entries) c.self.view_is
    (subst (λ n. Took g.H.Handler.rule c.self.inside.setting c.args.seat c.args.p.now (Opened n) c.self.inside.journal.entries c.push.new.self.entries) (sym (c.count-call.ensures ∙ c.self.invariant.stands.agrees.calls.many))
    (arrived g c).took)
