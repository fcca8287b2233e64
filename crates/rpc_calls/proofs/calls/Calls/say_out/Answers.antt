use Rattle.std.proofs.Common.{◌≡◌, ◌∙◌, ◌+◌, ◌≤◌, ◌++◌, ◌∷◌, [], None, Ok, length, ap, sym, subst, option_map}
use Rattle.std.specs.VecDeque.{deque_capacity}
use Rattle.rpc_journal.specs.declared.table.call_states.CallStates.{CallStates}
use Rattle.rpc_journal.specs.declared.entry.EntryKind.TheVariants.{Say}
use Rattle.rpc_journal.specs.Changes.{SayDid}
use Rattle.rpc_journal.specs.Conditions.{CanSay}
use Rattle.rpc_journal.specs.Entries.{out_item}
use Rattle.rpc_journal.specs.History.{adding}
use Rattle.rpc_journal.specs.Refusals.{say_refusal}
use Rattle.rpc_journal.proofs.PlaceLemmas.{some_same}
use Rattle.rpc_calls.specs.declared.call_place.CallFacts.{CallFacts}
use Rattle.rpc_calls.specs.Facts.{facts_of}
use Rattle.rpc_calls.specs.Owed.{items_of, owed_by}
use Rattle.rpc_calls.proofs.SaySteps.{Says, table_said}
use Rattle.rpc_calls.proofs.calls.Calls.say_out.Goals as goal

-- The table after what was said.
said : (g : _) (c : goal.After-push g)
    → Says g.H.Acts.now g.H.Acts.can_act g.H.Handler.rule c.self.inside.setting c.self.inside.journal c.push.new.self c.args.seat c.args.call c.args.out c.set_unflushed.new.self.states c.self.inside.calls.handlers c.push_back_reserved.new.self.items (deque_capacity c.push_back_reserved.new.self)
said g c =
    table_said g.H.Acts.now g.H.Acts.can_act g.H.Handler.rule c.self.inside.setting c.self.inside.journal c.push.new.self c.args.seat c.args.call c.args.out c.out_item.result c.self.inside.calls.states c.set_unflushed.new.self.states c.self.inside.calls.handlers c.self.inside.items.items c.push_back_reserved.new.self.items _ (deque_capacity c.push_back_reserved.new.self) c.take_room.new.journal.spare c.self.invariant
    (subst (λ t. CanSay t.setting t.entries c.args.call c.args.out) (sym c.self.view_is) c.requires.can)
    (subst (λ t. say_refusal t.setting t.entries c.args.call c.args.out ≡ None) (sym c.self.view_is) c.requires.unrefused)
    (λ r is. c.out_item.ensures ∙ ap (out_item c.self.inside.setting.role c.args.call c.unwrap.result.name) c.in_ok-copy.ensures
    ∙ ap (λ (q : CallFacts). out_item c.self.inside.setting.role c.args.call q.name c.args.out) (some_same c.unwrap.result (facts_of r) (sym c.unwrap.ensures ∙ c.facts.ensures ∙ ap (option_map facts_of) is)))
    (c.push_back_reserved.ensures.items ∙ ap (λ xs. xs ++ c.out_item.result ∷ []) c.in_ok-take_room.ensures.items)
    (ap (λ (t : CallStates). t.calls.items) c.set_unflushed.ensures.states)
    (ap (λ (t : CallStates). t.unflushed) c.set_unflushed.ensures.states ∙ c.len.ensures ∙ c.push_back_reserved.new.self.ok.0)
    (ap (λ (t : CallStates). t.input_ended) c.set_unflushed.ensures.states) (ap (λ (t : CallStates). t.halted) c.set_unflushed.ensures.states) (ap (λ (t : CallStates). t.newest) c.set_unflushed.ensures.states) (ap (λ (t : CallStates). t.closed.items) c.set_unflushed.ensures.states)
    (c.push.ensures.entries ∙ ap (λ es. adding es c.args.seat (Say c.args.call c.args.out)) c.in_ok-take_room.ensures.entries)
    c.push.ensures.spare
    (subst (λ n. length c.self.inside.items.items + items_of (owed_by c.self.inside.calls.states.calls.items) + 1 ≤ n) (sym c.push_back_reserved.ensures.capacity) (subst (λ o. length c.self.inside.items.items + items_of o + 1 ≤ deque_capacity c.take_room.new.items) c.owed.ensures.counts c.in_ok-take_room.ensures.places))
    (subst (λ o. length c.self.inside.items.items + items_of o + 1 + (o.uncancelled + o.running + 2) + 1 ≤ c.take_room.new.journal.spare) c.owed.ensures.counts c.in_ok-take_room.ensures.records)

pub invariant_of-self-2 : goal.invariant_of-self-2
invariant_of-self-2 g c = rw c.set_unflushed.ensures.handlers (said g c).table

pub returns-clause-did : goal.returns-clause-did
returns-clause-did g c =
    subst (λ t. SayDid t.setting c.args.seat c.args.call c.args.out (Ok (record {})) t.entries c.push.new.self.entries) c.self.view_is (said g c).did

pub returns-clause-legal : goal.returns-clause-legal
returns-clause-legal g c = (said g c).table.legal
