use Rattle.std.proofs.Common.{◌≡◌, ◌∙◌, ◌+◌, ◌≤◌, false, length, ap, sym, subst}
use Rattle.std.specs.VecDeque.{deque_capacity}
use Rattle.rpc_journal.specs.declared.entry.EntryKind.TheVariants.{Tick}
use Rattle.rpc_journal.specs.History.{adding}
use Rattle.rpc_journal.specs.Refusals.{is_full}
use Rattle.rpc_calls.specs.Owed.{items_of}
use Rattle.rpc_calls.specs.TableHolds.{IsTable}
use Rattle.rpc_calls.proofs.ArriveSteps.{table_roomier}
use Rattle.rpc_calls.proofs.TickSteps.{table_ticked}
use Rattle.rpc_calls.proofs.WiderSteps.{table_all_wider}
use Rattle.rpc_calls.proofs.calls.Calls.tell_calls.Goals as goal

pub invariant_of-self : goal.invariant_of-self
invariant_of-self g c =
    rw c.widen_all.ensures.handlers
    (table_all_wider g.H.Acts.now g.H.Acts.can_act g.H.Handler.rule c.self.inside.setting c.self.inside.journal c.self.inside.calls.states c.widen_all.new.self.states c.self.inside.calls.handlers c.self.inside.items.items (deque_capacity c.self.inside.items) c.self.invariant c.in_err-widen_all.ensures.same c.in_err-widen_all.ensures.outside.unflushed c.in_err-widen_all.ensures.outside.input c.in_err-widen_all.ensures.outside.halt c.in_err-widen_all.ensures.outside.newest c.in_err-widen_all.ensures.outside.closed)

pub invariant_of-self-in_err-take_room : goal.invariant_of-self-in_err-take_room
invariant_of-self-in_err-take_room g c =
    rw c.widen_all.ensures.handlers
    (table_roomier _ _ _ _ c.self.inside.journal _ _ _ c.self.inside.items.items _ (deque_capacity c.self.inside.items) _
    (table_all_wider g.H.Acts.now g.H.Acts.can_act g.H.Handler.rule c.self.inside.setting c.self.inside.journal c.self.inside.calls.states c.widen_all.new.self.states c.self.inside.calls.handlers c.self.inside.items.items (deque_capacity c.self.inside.items) c.self.invariant c.in_ok-widen_all.ensures.same c.in_ok-widen_all.ensures.outside.unflushed c.in_ok-widen_all.ensures.outside.input c.in_ok-widen_all.ensures.outside.halt c.in_ok-widen_all.ensures.outside.newest c.in_ok-widen_all.ensures.outside.closed)
    c.in_err-take_room.ensures.entries c.in_err-take_room.ensures.spare c.in_err-take_room.ensures.items c.in_err-take_room.ensures.capacity)

-- The table after the tick.
ticked : (g : _) (c : goal.After-push g)
    → IsTable g.H.Acts.now g.H.Acts.can_act g.H.Handler.rule c.self.inside.setting c.push.new.self c.tell_time.new.self.states c.self.inside.calls.handlers c.take_room.new.items.items (deque_capacity c.take_room.new.items)
ticked g c =
    table_ticked g.H.Acts.now g.H.Acts.can_act g.H.Handler.rule c.self.inside.setting c.self.inside.journal c.push.new.self c.args.seat c.len-at.result c.args.now c.take_room.new.journal.spare c.widen_all.new.self.states c.tell_time.new.self.states c.self.inside.calls.handlers c.self.inside.items.items c.take_room.new.items.items _ (deque_capacity c.take_room.new.items)
    (table_all_wider g.H.Acts.now g.H.Acts.can_act g.H.Handler.rule c.self.inside.setting c.self.inside.journal c.self.inside.calls.states c.widen_all.new.self.states c.self.inside.calls.handlers c.self.inside.items.items (deque_capacity c.self.inside.items) c.self.invariant c.in_ok-widen_all.ensures.same c.in_ok-widen_all.ensures.outside.unflushed c.in_ok-widen_all.ensures.outside.input c.in_ok-widen_all.ensures.outside.halt c.in_ok-widen_all.ensures.outside.newest c.in_ok-widen_all.ensures.outside.closed)
    c.requires.seat (subst (λ t. is_full t.entries ≡ false) (sym c.self.view_is) c.requires.room) c.in_ok-widen_all.ensures.room c.len-at.ensures.len c.tell_time.ensures.calls c.tell_time.ensures.outside.unflushed c.tell_time.ensures.outside.input c.tell_time.ensures.outside.halt c.tell_time.ensures.outside.newest c.tell_time.ensures.outside.closed c.in_ok-take_room.ensures.items
    (c.push.ensures.entries ∙ ap (λ es. adding es c.args.seat (Tick c.args.now)) c.in_ok-take_room.ensures.entries) c.push.ensures.spare
    (subst (λ o. length c.self.inside.items.items + items_of o + 0 ≤ deque_capacity c.take_room.new.items) c.owed.ensures.counts c.in_ok-take_room.ensures.places)
    (subst (λ o. length c.self.inside.items.items + items_of o + 0 + (o.uncancelled + o.running + 2) + 1 ≤ c.take_room.new.journal.spare) c.owed.ensures.counts c.in_ok-take_room.ensures.records)

pub invariant_of-self-2 : goal.invariant_of-self-2
invariant_of-self-2 g c = rw (c.tell_time.ensures.handlers, c.widen_all.ensures.handlers) (ticked g c)

pub returns-clause-legal : goal.returns-clause-legal
returns-clause-legal g c = (ticked g c).legal
