use Rattle.std.proofs.Common.{◌≡◌, ◌∙◌, ◌+◌, ◌≤◌, length, true, ap, sym, subst}
use Rattle.std.specs.VecDeque.{deque_capacity}
use Rattle.rpc_journal.specs.declared.entry.EntryKind.TheVariants.{Start}
use Rattle.rpc_journal.specs.History.{adding}
use Rattle.rpc_calls.specs.Owed.{items_of}
use Rattle.rpc_journal.specs.Items.{is_ready}
use Rattle.rpc_journal.specs.Runs.{Begins}
use Rattle.rpc_journal.specs.CallTable.{past}
use Rattle.std.proofs.lemmas.Option.{slice_get_within}
use Rattle.rpc_calls.specs.TableHolds.{IsTable}
use Rattle.rpc_calls.proofs.PlaceChanges.{set_at, set_many, set_others}
use Rattle.rpc_calls.proofs.StartSteps.{ready_slot, ready_row, ready_handler}
use Rattle.rpc_calls.proofs.StartTables.{table_started, begins_run}
use Rattle.rpc_calls.proofs.calls.Calls.begin.Goals as goal

pub start-oldest-requires-clause-handled : goal.start-oldest-requires-clause-handled
start-oldest-requires-clause-handled g c = λ slot is.
    ready_slot _ _ _ _ _ _ _ _ _ slot c.self.invariant.stands (subst (λ t. is_ready (past t) c.args.call ≡ true) (sym c.self.view_is) c.requires) is

pub start-oldest-requires-clause-waits : goal.start-oldest-requires-clause-waits
start-oldest-requires-clause-waits g c = λ r is.
    (ready_row _ _ r (subst (λ t. is_ready (past t) c.args.call ≡ true) (sym c.self.view_is) c.requires) (c.self.invariant.stands.agrees.calls.each _ r is)).waits

pub begin-requires : goal.begin-requires
begin-requires g c =
    (ready_handler _ _ _ _ _ _ _ _ _ _ c.self.invariant.stands (subst (λ t. is_ready (past t) c.args.call ≡ true) (sym c.self.view_is) c.requires) c.start-oldest.ensures.handler).able

-- The table after the start.
started : (g : _) (c : goal.After-begin g)
    → IsTable g.H.Acts.now g.H.Acts.can_act g.H.Handler.rule c.self.inside.setting c.push.new.self c.start-oldest.new.self.states c.start-oldest.new.self.handlers c.take_room.new.items.items (deque_capacity c.take_room.new.items)
started g c =
    table_started _ _ _ _ c.self.inside.journal c.push.new.self c.args.seat c.args.call c.self.inside.calls.states c.start-oldest.new.self.states _ _ _ _ _ _ _ c.self.invariant (subst (λ t. is_ready (past t) c.args.call ≡ true) (sym c.self.view_is) c.requires)
    c.in_ok-take_room.ensures.items c.start-oldest.ensures.change c.start-oldest.ensures.outside
    (set_many _ _ _ _ c.start-oldest.ensures.handlers) (set_others _ _ _ _ c.start-oldest.ensures.handlers) (set_at _ _ _ _ c.start-oldest.ensures.handlers (slice_get_within _ _ _ c.start-oldest.ensures.handler))
    (c.push.ensures.entries ∙ ap (λ es. adding es c.args.seat (Start c.args.call)) c.in_ok-take_room.ensures.entries) c.push.ensures.spare
    (subst (λ o. length c.self.inside.items.items + items_of o + 513 ≤ deque_capacity c.take_room.new.items) c.owed.ensures.counts c.in_ok-take_room.ensures.places)
    (subst (λ o. length c.self.inside.items.items + items_of o + 513 + (o.uncancelled + o.running + 2) + 2 ≤ c.take_room.new.journal.spare) c.owed.ensures.counts c.in_ok-take_room.ensures.records)

pub invariant_of-self-2 : goal.invariant_of-self-2
invariant_of-self-2 g c = started g c

pub returns-clause-begins : goal.returns-clause-begins
returns-clause-begins g c =
    subst (λ t. Begins g.H.Handler.rule t.setting c.args.seat c.begin.result.run t.entries c.push.new.self.entries) c.self.view_is
    (subst (λ run. Begins g.H.Handler.rule c.self.inside.setting c.args.seat run c.self.inside.journal.entries c.push.new.self.entries)
    (ap (λ n. record { call = c.args.call; seat = c.args.seat; place = n; event = c.start-oldest.result.oldest.event; state = g.H.Acts.now c.start-oldest.result.handler }) (sym c.len-place.ensures.len) ∙ sym c.begin.ensures.run)
    (begins_run g.H.Acts.now g.H.Acts.can_act _ _ c.self.inside.journal c.push.new.self c.args.seat c.args.call c.self.inside.calls.states c.start-oldest.new.self.states _ _ _ c.start-oldest.result.oldest c.start-oldest.result.handler c.self.invariant (subst (λ t. is_ready (past t) c.args.call ≡ true) (sym c.self.view_is) c.requires)
    c.start-oldest.ensures.change c.start-oldest.ensures.oldest c.start-oldest.ensures.handler
    (c.push.ensures.entries ∙ ap (λ es. adding es c.args.seat (Start c.args.call)) c.in_ok-take_room.ensures.entries)))

pub returns-clause-legal : goal.returns-clause-legal
returns-clause-legal g c = (started g c).legal
