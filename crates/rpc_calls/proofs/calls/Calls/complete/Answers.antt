use Rattle.std.proofs.Common.{◌≡◌, ◌∙◌, ◌+◌, ◌≤◌, ◌++◌, ◌∷◌, [], None, Ok, length, ap, sym, subst, option_map}
use Rattle.std.specs.VecDeque.{deque_capacity}
use Rattle.rpc_journal.specs.declared.table.call_states.CallStates.{CallStates}
use Rattle.rpc_ids.specs.declared.status.Status.TheVariants.{Okay}
use Rattle.rpc_packet.specs.declared.packet_type.PacketType.TheVariants.{Completion}
use Rattle.rpc_journal.specs.declared.entry.EntryKind.TheVariants.{Done}
use Rattle.rpc_journal.specs.Changes.{DoneDid}
use Rattle.rpc_journal.specs.Conditions.{CanComplete}
use Rattle.rpc_journal.specs.History.{adding}
use Rattle.rpc_journal.specs.Refusals.{done_refusal}
use Rattle.rpc_journal.specs.Rows.{packet_item, status_packet}
use Rattle.rpc_journal.specs.table.Touch.{completing}
use Rattle.rpc_journal.specs.table.Turns.{Turns}
use Rattle.rpc_journal.proofs.PlaceLemmas.{some_same}
use Rattle.rpc_calls.specs.declared.call_place.CallFacts.{CallFacts}
use Rattle.rpc_calls.specs.Facts.{facts_of}
use Rattle.rpc_calls.specs.Owed.{items_of, owed_by}
use Rattle.rpc_calls.specs.Places.{ChangesAt}
use Rattle.rpc_calls.proofs.Statuses.{completed_live}
use Rattle.rpc_calls.proofs.SaySteps.{Completes, table_completed}
use Rattle.rpc_calls.proofs.calls.Calls.complete.Goals as goal

pub complete-requires-clause-live : goal.complete-requires-clause-live
complete-requires-clause-live g c = λ r is.
    completed_live c.self.inside.setting c.self.inside.journal.entries c.args.call r (subst (λ t. done_refusal t.setting t.entries c.args.call ≡ None) (sym c.self.view_is) c.requires.unrefused)
    (c.self.invariant.stands.agrees.calls.each c.args.call r is)

-- The table after the completion.
completed : (g : _) (c : goal.After-push g)
    → Completes g.H.Acts.now g.H.Acts.can_act g.H.Handler.rule c.self.inside.setting c.self.inside.journal c.push.new.self c.args.seat c.args.call c.set_unflushed.new.self.states c.self.inside.calls.handlers c.push_back_reserved.new.self.items (deque_capacity c.push_back_reserved.new.self)
completed g c =
    table_completed g.H.Acts.now g.H.Acts.can_act g.H.Handler.rule c.self.inside.setting c.self.inside.journal c.push.new.self c.args.seat c.args.call c.send_item.result c.self.inside.calls.states c.set_unflushed.new.self.states c.self.inside.calls.handlers c.self.inside.items.items c.push_back_reserved.new.self.items _ (deque_capacity c.push_back_reserved.new.self) c.take_room.new.journal.spare c.self.invariant
    (subst (λ t. CanComplete t.setting t.entries c.args.call) (sym c.self.view_is) c.requires.can)
    (subst (λ t. done_refusal t.setting t.entries c.args.call ≡ None) (sym c.self.view_is) c.requires.unrefused)
    (λ r is. c.send_item.ensures ∙ ap (packet_item c.args.call) c.status_packet-packet.ensures
    ∙ ap (λ (q : CallFacts). packet_item c.args.call (status_packet Completion q.name Okay)) (some_same c.unwrap.result (facts_of r) (sym c.unwrap.ensures ∙ c.facts.ensures ∙ ap (option_map facts_of) is)))
    (c.push_back_reserved.ensures.items ∙ ap (λ xs. xs ++ c.send_item.result ∷ []) c.in_ok-take_room.ensures.items)
    (λ at. subst (λ (t : CallStates). ChangesAt c.args.call (Turns at completing) c.self.inside.calls.states.calls.items t.calls.items) (sym c.set_unflushed.ensures.states) (c.complete.ensures.change at))
    (ap (λ (t : CallStates). t.unflushed) c.set_unflushed.ensures.states ∙ c.len.ensures ∙ c.push_back_reserved.new.self.ok.0)
    (ap (λ (t : CallStates). t.input_ended) c.set_unflushed.ensures.states ∙ c.complete.ensures.outside.input) (ap (λ (t : CallStates). t.halted) c.set_unflushed.ensures.states ∙ c.complete.ensures.outside.halt) (ap (λ (t : CallStates). t.newest) c.set_unflushed.ensures.states ∙ c.complete.ensures.outside.newest) (ap (λ (t : CallStates). t.closed.items) c.set_unflushed.ensures.states ∙ c.complete.ensures.outside.closed)
    (c.push.ensures.entries ∙ ap (λ es. adding es c.args.seat (Done c.args.call)) c.in_ok-take_room.ensures.entries)
    c.push.ensures.spare
    (subst (λ n. length c.self.inside.items.items + items_of (owed_by c.self.inside.calls.states.calls.items) + 1 ≤ n) (sym c.push_back_reserved.ensures.capacity) (subst (λ o. length c.self.inside.items.items + items_of o + 1 ≤ deque_capacity c.take_room.new.items) c.owed.ensures.counts c.in_ok-take_room.ensures.places))
    (subst (λ o. length c.self.inside.items.items + items_of o + 1 + (o.uncancelled + o.running + 2) + 1 ≤ c.take_room.new.journal.spare) c.owed.ensures.counts c.in_ok-take_room.ensures.records)

pub invariant_of-self-2 : goal.invariant_of-self-2
invariant_of-self-2 g c = rw (c.set_unflushed.ensures.handlers, c.complete.ensures.handlers) (completed g c).table

pub returns-clause-did : goal.returns-clause-did
returns-clause-did g c =
    subst (λ t. DoneDid t.setting c.args.seat c.args.call (Ok (record {})) t.entries c.push.new.self.entries) c.self.view_is
    (completed g c).did

pub returns-clause-legal : goal.returns-clause-legal
returns-clause-legal g c = (completed g c).table.legal
