use Rattle.std.proofs.Common.{◌≡◌, ◌∙◌, ◌+◌, ◌≤◌, None, Some, Ok, IfSome, IsTrue, length, is_some, ap, sym, subst, arith}
use Rattle.std.specs.VecDeque.{deque_capacity}
use Rattle.rpc_journal.specs.declared.table.call_state.CallState.{CallState}
use Rattle.rpc_journal.specs.declared.entry.EntryKind.TheVariants.{Replace}
use Rattle.rpc_journal.specs.Changes.{ReplaceDid}
use Rattle.rpc_journal.specs.History.{adding, history}
use Rattle.rpc_journal.specs.Refusals.{replace_refusal}
use Rattle.rpc_journal.specs.States.{state_of}
use Rattle.rpc_journal.specs.CallTable.{past}
use Rattle.rpc_calls.specs.Handlers.{IsHandlerOf}
use Rattle.rpc_calls.specs.Owed.{items_of}
use Rattle.rpc_journal.proofs.PlaceLemmas.{get_some, some_same}
use Rattle.rpc_calls.proofs.PlaceChanges.{set_at, set_many, set_others}
use Rattle.rpc_calls.proofs.ArriveSteps.{table_roomier}
use Rattle.rpc_calls.proofs.ReplaceSteps.{Replaces, table_replaced}
use Rattle.rpc_calls.proofs.ReplaceTables.{handler_back, handler_was, if_some, replaceable, replaced_live}
use Rattle.rpc_calls.proofs.calls.Calls.put_handler.Goals as goal

pub swap_handler-old-requires-clause-live : goal.swap_handler-old-requires-clause-live
swap_handler-old-requires-clause-live g c = λ r is.
    replaced_live c.self.inside.setting c.self.inside.journal.entries c.args.call r (subst (λ t. replace_refusal t.setting t.entries c.args.call ≡ None) (sym c.self.view_is) c.requires.unrefused)
    (c.self.invariant.stands.agrees.calls.each c.args.call r is)

-- The table after the exchange.
replaced : (g : _) (c : goal.After-push g)
    → Replaces g.H.Acts.now g.H.Acts.can_act g.H.Handler.rule c.self.inside.setting c.self.inside.journal c.push.new.self c.args.seat c.args.call c.in-Ok.memo c.self.inside.calls.states c.swap_handler-old.new.self.handlers c.take_room.new.items.items (deque_capacity c.take_room.new.items) c.swap_handler-old.result
replaced g c =
    let unrefused = subst (λ t. replace_refusal t.setting t.entries c.args.call ≡ None) (sym c.self.view_is) c.requires.unrefused in
    let row = get_some c.self.inside.calls.states.calls.items c.args.call (omega (arith, (replaceable c.self.inside.setting c.self.inside.journal.entries c.args.call unrefused).there, c.self.invariant.stands.agrees.calls.many)) in
    table_replaced g.H.Acts.now g.H.Acts.can_act g.H.Handler.rule c.self.inside.setting c.self.inside.journal c.push.new.self c.args.seat c.args.call c.in-Ok.memo c.args.handler c.swap_handler-old.result c.self.inside.calls.states c.self.inside.calls.handlers c.swap_handler-old.new.self.handlers c.self.inside.items.items c.take_room.new.items.items _ (deque_capacity c.take_room.new.items) c.take_room.new.journal.spare c.self.invariant unrefused
    (omega (arith, (replaceable c.self.inside.setting c.self.inside.journal.entries c.args.call unrefused).there, c.self.invariant.stands.agrees.calls.many)) c.requires.able c.in-Ok.ensures
    (handler_back g.H.Acts.now g.H.Acts.can_act g.H.Handler.rule c.self.inside.setting c.self.inside.journal c.self.inside.calls.states c.self.inside.calls.handlers c.self.inside.items.items _ c.args.call (is_some row.0.run) c.swap_handler-old.result c.self.invariant unrefused
    (λ r is. ap (λ (q : CallState). is_some q.run) (some_same row.0 r (sym row.1 ∙ is)))
    (λ slot there. c.swap_handler-old.ensures.back row.0 slot row.1 there))
    (set_many _ _ _ _ c.swap_handler-old.ensures.handlers) (set_others _ _ _ _ c.swap_handler-old.ensures.handlers) (set_at _ _ _ _ c.swap_handler-old.ensures.handlers (omega (arith, (replaceable c.self.inside.setting c.self.inside.journal.entries c.args.call unrefused).there, c.self.invariant.stands.keeps.many))) c.in_default.ensures.items
    (c.push.ensures.entries ∙ ap (λ es. adding es c.args.seat (Replace c.args.call c.in-Ok.memo)) c.in_default.ensures.entries) c.push.ensures.spare
    (subst (λ o. length c.self.inside.items.items + items_of o + 0 ≤ deque_capacity c.take_room.new.items) c.owed.ensures.counts c.in_default.ensures.places)
    (subst (λ o. length c.self.inside.items.items + items_of o + 0 + (o.uncancelled + o.running + 2) + 1 ≤ c.take_room.new.journal.spare) c.owed.ensures.counts c.in_default.ensures.records)

pub invariant_of-self-in-Ok : goal.invariant_of-self-in-Ok
invariant_of-self-in-Ok g c = rw c.swap_handler-old.ensures.states (replaced g c).table

pub invariant_of-self-in-Err-memo : goal.invariant_of-self-in-Err-memo
invariant_of-self-in-Err-memo g c =
    table_roomier _ _ _ _ c.self.inside.journal _ _ _ c.self.inside.items.items _ (deque_capacity c.self.inside.items) _ c.self.invariant
    c.in_default.ensures.entries c.in_default.ensures.spare c.in_default.ensures.items c.in_default.ensures.capacity

pub returns-in-Ok-clause-did : goal.returns-in-Ok-clause-did
returns-in-Ok-clause-did g c =
    subst (λ t. ReplaceDid {H = g.row.H.Denot} t.setting c.args.seat c.args.call (g.H.Acts.now c.args.handler) (Ok c.swap_handler-old.result) t.entries c.push.new.self.entries) c.self.view_is
    (subst (λ m. ReplaceDid {H = g.row.H.Denot} c.self.inside.setting c.args.seat c.args.call m (Ok c.swap_handler-old.result) c.self.inside.journal.entries c.push.new.self.entries) c.in-Ok.ensures (replaced g c).did)

pub returns-in-Ok-clause-legal : goal.returns-in-Ok-clause-legal
returns-in-Ok-clause-legal g c = (replaced g c).table.legal

-- The handler that comes back was the call's.
was : (g : _) (c : goal.After-push g)
    → IfSome c.swap_handler-old.result (IsHandlerOf g.H.Acts.now g.H.Acts.can_act g.H.Handler.rule c.self.inside.setting (history c.self.inside.setting c.self.inside.journal.entries) c.args.call)
was g c =
    let unrefused = subst (λ t. replace_refusal t.setting t.entries c.args.call ≡ None) (sym c.self.view_is) c.requires.unrefused in
    let row = get_some c.self.inside.calls.states.calls.items c.args.call (omega (arith, (replaceable c.self.inside.setting c.self.inside.journal.entries c.args.call unrefused).there, c.self.invariant.stands.agrees.calls.many)) in
    handler_was g.H.Acts.now g.H.Acts.can_act g.H.Handler.rule c.self.inside.setting c.self.inside.journal c.self.inside.calls.states c.self.inside.calls.handlers c.self.inside.items.items _ c.args.call (is_some row.0.run) c.swap_handler-old.result c.self.invariant unrefused
    (λ r is. ap (λ (q : CallState). is_some q.run) (some_same row.0 r (sym row.1 ∙ is)))
    (λ slot there. c.swap_handler-old.ensures.back row.0 slot row.1 there)

pub returns-in-Ok-clause-able : goal.returns-in-Ok-clause-able
returns-in-Ok-clause-able g c =
    if_some (IsHandlerOf g.H.Acts.now g.H.Acts.can_act g.H.Handler.rule c.self.inside.setting (history c.self.inside.setting c.self.inside.journal.entries) c.args.call) g.H.Acts.can_act c.swap_handler-old.result (λ h is. is.able) (was g c)

pub returns-in-Ok-clause-state : goal.returns-in-Ok-clause-state
returns-in-Ok-clause-state g c =
    subst (λ t. IfSome c.swap_handler-old.result (λ h. IsTrue g.H.Handler.rule.ruled → state_of g.H.Handler.rule t.setting (past t) c.args.call ≡ Some (g.H.Acts.now h))) c.self.view_is
    (if_some (IsHandlerOf g.H.Acts.now g.H.Acts.can_act g.H.Handler.rule c.self.inside.setting (history c.self.inside.setting c.self.inside.journal.entries) c.args.call)
    (λ h. IsTrue g.H.Handler.rule.ruled → state_of g.H.Handler.rule c.self.inside.setting (history c.self.inside.setting c.self.inside.journal.entries) c.args.call ≡ Some (g.H.Acts.now h)) c.swap_handler-old.result (λ h is. is.state) (was g c))
