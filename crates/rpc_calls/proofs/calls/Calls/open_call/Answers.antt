use Rattle.std.proofs.Common.{◌≡◌, ◌∙◌, ◌+◌, ◌≤◌, ◌++◌, ◌∷◌, [], Some, None, length, ap, sym, subst, arith}
use Rattle.std.specs.VecDeque.{deque_capacity}
use Rattle.rpc_journal.specs.declared.table.call_states.CallStates.{CallStates}
use Rattle.rpc_journal.specs.declared.entry.EntryKind.TheVariants.{Invoke}
use Rattle.rpc_journal.specs.Conditions.{CanInvoke}
use Rattle.rpc_journal.specs.History.{adding}
use Rattle.rpc_journal.specs.table.Newest.{IsNamed}
use Rattle.rpc_journal.specs.Refusals.{invoke_refusal}
use Rattle.rpc_journal.specs.Rows.{method_named, packet_item}
use Rattle.rpc_calls.specs.Owed.{items_of, owed_by}
use Rattle.rpc_journal.specs.table.Newest.{newest_of}
use Rattle.rpc_calls.proofs.ArriveSteps.{table_roomier}
use Rattle.rpc_calls.proofs.InvokeSteps.{Invokes, table_invoked}
use Rattle.rpc_calls.proofs.OpenTables.{table_kept}
use Rattle.rpc_calls.proofs.calls.Calls.open_call.Goals as goal

pub invariant_of-self-in-Err-invoked : goal.invariant_of-self-in-Err-invoked
invariant_of-self-in-Err-invoked g c =
    table_roomier _ _ _ _ c.self.inside.journal _ _ _ c.self.inside.items.items _ (deque_capacity c.self.inside.items) _ c.self.invariant
    c.in_default.ensures.entries c.in_default.ensures.spare c.in_default.ensures.items c.in_default.ensures.capacity

pub invariant_of-self-in_err-open : goal.invariant_of-self-in_err-open
invariant_of-self-in_err-open g c =
    table_kept g.H.Acts.now g.H.Acts.can_act g.H.Handler.rule c.self.inside.setting c.self.inside.journal c.take_room.new.journal c.self.inside.calls.states c.open.new.self.states c.self.inside.calls.handlers c.open.new.self.handlers c.self.inside.items.items c.take_room.new.items.items (deque_capacity c.self.inside.items) (deque_capacity c.take_room.new.items) c.self.invariant
    c.in_err-open.ensures.err.handlers c.in_err-open.ensures.err.calls (λ name. ap (λ m. newest_of m name) c.in_err-open.ensures.err.outside.newest) c.in_err-open.ensures.rest c.in_default.ensures.entries c.in_default.ensures.spare c.in_default.ensures.items c.in_default.ensures.capacity

-- The table after the invocation.
invoked : (g : _) (c : goal.After-push g)
    → Invokes g.H.Acts.now g.H.Acts.can_act g.H.Handler.rule c.self.inside.setting c.self.inside.journal c.push.new.self c.args.seat c.args.name c.args.payload c.in-Ok.memo c.count-call.result c.set_unflushed.new.self.states c.set_unflushed.new.self.handlers c.push_back_reserved.new.self.items (deque_capacity c.push_back_reserved.new.self)
invoked g c =
    table_invoked g.H.Acts.now g.H.Acts.can_act g.H.Handler.rule c.self.inside.setting c.self.inside.journal c.push.new.self c.args.seat c.count-call.result c.args.name c.args.payload c.in-Ok.memo c.args.method c.in-Ok-invoked.state c.args.handler c.self.inside.calls.states c.set_unflushed.new.self.states c.self.inside.calls.handlers c.set_unflushed.new.self.handlers c.self.inside.items.items c.push_back_reserved.new.self.items _ (deque_capacity c.push_back_reserved.new.self) c.take_room.new.journal.spare c.self.invariant
    (subst (λ t. CanInvoke t.setting c.args.name c.args.payload) (sym c.self.view_is) c.requires.can)
    (subst (λ t. invoke_refusal t.setting t.entries c.args.name ≡ None) (sym c.self.view_is) c.requires.unrefused)
    (subst (λ t. method_named t.setting c.args.name ≡ Some c.args.method) (sym c.self.view_is) c.requires.method)
    c.in-Ok-invoked.ensures.state (omega (arith, c.in-Ok-invoked.ensures.room, c.in-Ok-invoked.state.waiting.ok.0))
    (omega (arith, c.if-call-ge-MAX_CALLS.false, c.count-call.ensures)) c.requires.able c.in-Ok.ensures
    (c.count-call.ensures)
    (ap (λ (t : CallStates). t.calls.items) c.set_unflushed.ensures.states ∙ c.in_ok-open.ensures.calls)
    (subst (λ (t : CallStates). IsNamed c.in-Ok-invoked.state.name (length c.self.inside.calls.states.calls.items) c.self.inside.calls.states.newest t.newest) (sym c.set_unflushed.ensures.states) c.in_ok-open.ensures.newest)
    (ap (λ (t : CallStates). t.unflushed) c.set_unflushed.ensures.states ∙ c.len.ensures ∙ c.push_back_reserved.new.self.ok.0)
    (ap (λ (t : CallStates). t.input_ended) c.set_unflushed.ensures.states ∙ c.in_ok-open.ensures.rest.input) (ap (λ (t : CallStates). t.halted) c.set_unflushed.ensures.states ∙ c.in_ok-open.ensures.rest.halt) (ap (λ (t : CallStates). t.closed.items) c.set_unflushed.ensures.states ∙ c.in_ok-open.ensures.rest.closed)
    (c.set_unflushed.ensures.handlers ∙ c.in_ok-open.ensures.handlers)
    (c.push_back_reserved.ensures.items ∙ ap (λ xs. xs ++ c.send_item.result ∷ []) c.in_default.ensures.items ∙ ap (λ i. c.self.inside.items.items ++ i ∷ []) (c.send_item.ensures ∙ ap (packet_item c.count-call.result) c.in-Ok-ask.ensures.1))
    (c.push.ensures.entries ∙ ap (λ es. adding es c.args.seat (Invoke c.in-Ok-ask.packets.0 c.in-Ok.memo)) c.in_default.ensures.entries ∙ ap (λ q. adding c.self.inside.journal.entries c.args.seat (Invoke q c.in-Ok.memo)) c.in-Ok-ask.ensures.0)
    c.push.ensures.spare
    (subst (λ n. length c.self.inside.items.items + items_of (owed_by c.self.inside.calls.states.calls.items) + 3 ≤ n) (sym c.push_back_reserved.ensures.capacity) (subst (λ o. length c.self.inside.items.items + items_of o + 3 ≤ deque_capacity c.take_room.new.items) c.owed.ensures.counts c.in_default.ensures.places))
    (subst (λ o. length c.self.inside.items.items + items_of o + 3 + (o.uncancelled + o.running + 2) + 2 ≤ c.take_room.new.journal.spare) c.owed.ensures.counts c.in_default.ensures.records)

pub invariant_of-self-2 : goal.invariant_of-self-2
invariant_of-self-2 g c = (invoked g c).table

pub returns-clause-legal : goal.returns-clause-legal
returns-clause-legal g c = (invoked g c).table.legal
