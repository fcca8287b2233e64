use Rattle.std.proofs.Common.{◌∙◌, is_some, ap, sym, subst, arith}
use Rattle.std.specs.VecDeque.{deque_capacity}
use Rattle.rpc_journal.specs.Calls.{runner_of}
use Rattle.rpc_journal.specs.History.{history}
use Rattle.rpc_journal.specs.Changes.{FinishDid}
use Rattle.rpc_journal.specs.Runs.{IsRunning}
use Rattle.rpc_calls.proofs.LeftTables.{table_may_leave}
use Rattle.rpc_calls.proofs.FinishTables.{Finishes, run_finished, finish_room}
use Rattle.rpc_calls.proofs.calls.Calls.finish.Goals as goal

pub end_run-back-requires-clause-runs : goal.end_run-back-requires-clause-runs
end_run-back-requires-clause-runs g c = λ r is.
    let on = subst (λ t. IsRunning g.H.Handler.rule t.setting t.entries c.args.running.run) (sym c.self.view_is) c.requires.on in
    ap is_some (sym (c.self.invariant.stands.agrees.calls.each _ r is).run ∙ ap (runner_of (history c.self.inside.setting c.self.inside.journal.entries)) c.into_answered-call.ensures.call ∙ on.unfinished)

pub end_run-back-requires-clause-room : goal.end_run-back-requires-clause-room
end_run-back-requires-clause-room g c =
    let room = (finish_room g.H.Acts.now g.H.Acts.can_act g.H.Handler.rule c.self.inside.setting c.self.inside.journal c.args.running.run c.args.running.gives c.into_answered-call.result.copies.outs.items c.self.inside.calls.states c.self.inside.calls.handlers c.self.inside.items.items _ c.self.invariant
    (subst (λ t. IsRunning g.H.Handler.rule t.setting t.entries c.args.running.run) (sym c.self.view_is) c.requires.on)
    (record { limits = c.into_answered-call.ensures.limits; by_rule = c.into_answered-call.ensures.by_rule }) c.into_answered-call.ensures.outs).0 in
    omega (arith, room, c.self.inside.items.ok.0, c.into_answered-call.result.copies.outs.ok.0)

pub push-requires : goal.push-requires
push-requires g c =
    let room = (finish_room g.H.Acts.now g.H.Acts.can_act g.H.Handler.rule c.self.inside.setting c.self.inside.journal c.args.running.run c.args.running.gives c.into_answered-call.result.copies.outs.items c.self.inside.calls.states c.self.inside.calls.handlers c.self.inside.items.items _ c.self.invariant
    (subst (λ t. IsRunning g.H.Handler.rule t.setting t.entries c.args.running.run) (sym c.self.view_is) c.requires.on)
    (record { limits = c.into_answered-call.ensures.limits; by_rule = c.into_answered-call.ensures.by_rule }) c.into_answered-call.ensures.outs).1 in
    λ none. omega (arith, room, none)

-- The table after the end of the run.
finished : (g : _) (c : goal.After-push g)
    → Finishes g.H.Acts.now g.H.Acts.can_act g.H.Handler.rule c.self.inside.setting c.self.inside.journal c.push.new.self c.args.running.run c.args.running.gives c.into_answered-call.result.handler c.self.inside.calls.states c.end_run-back.new.states.states c.end_run-back.ensures.handlers.between c.end_run-back.new.items.items (deque_capacity c.end_run-back.new.items) c.end_run-back.result
finished g c =
    run_finished g.H.Acts.now g.H.Acts.can_act g.H.Handler.rule c.self.inside.setting c.self.inside.journal c.push.new.self c.args.running.run c.args.running.gives
    c.into_answered-call.result.call c.into_answered-call.result.seat c.into_answered-call.result.answer c.into_answered-call.result.copies.outs.items c.into_answered-call.result.copies.end
    c.into_answered-call.result.handler c.self.inside.calls.states c.end_run-back.new.states.states c.self.inside.calls.handlers c.end_run-back.ensures.handlers.between c.self.inside.items.items c.end_run-back.new.items.items _ _
    c.end_run-back.ensures.handlers.over c.end_run-back.result c.self.invariant
    (subst (λ t. IsRunning g.H.Handler.rule t.setting t.entries c.args.running.run) (sym c.self.view_is) c.requires.on)
    (record { limits = c.into_answered-call.ensures.limits; by_rule = c.into_answered-call.ensures.by_rule })
    (record { call_is = c.into_answered-call.ensures.call; seat_is = c.into_answered-call.ensures.seat; answer_is = c.into_answered-call.ensures.answer; outs_is = c.into_answered-call.ensures.outs; end_is = c.into_answered-call.ensures.end })
    c.into_answered-call.ensures.able (λ ruled. c.into_answered-call.ensures.state ∙ c.into_answered-call.ensures.moved ruled)
    (record { says = c.end_run-back.ensures.items; change = c.end_run-back.ensures.change; newest = c.end_run-back.ensures.newest; unflushed = c.end_run-back.ensures.unflushed; input = c.end_run-back.ensures.input; halt = c.end_run-back.ensures.halt; closed = c.end_run-back.ensures.closed })
    c.end_run-back.ensures.handlers.over_is
    (record { many = c.end_run-back.ensures.handlers.put.many; others = c.end_run-back.ensures.handlers.put.others; back = c.end_run-back.ensures.handlers.put.back; it = c.end_run-back.ensures.handlers.put.it; kept = c.end_run-back.ensures.handlers.put.kept })
    c.end_run-back.ensures.capacity c.push.ensures.entries c.push.ensures.spare

pub invariant_of-self : goal.invariant_of-self
invariant_of-self g c =
    table_may_leave g.H.Acts.now g.H.Acts.can_act g.H.Handler.rule c.self.inside.setting c.push.new.self c.into_answered-call.result.call c.end_run-back.new.states c.end_run-back.ensures.handlers.between c.end_run-back.new.items.items _
    (finished g c).table
    c.end_run-back.ensures.handlers.leaves

pub returns-clause-did : goal.returns-clause-did
returns-clause-did g c = (
  c.into_answered-call.result.handler,
  c.into_answered-call.ensures.state,
  subst (λ t. FinishDid t.setting c.args.running.run c.args.running.gives c.into_answered-call.result.handler c.end_run-back.result t.entries c.push.new.self.entries) c.self.view_is
      (finished g c).did,
)

pub returns-clause-legal : goal.returns-clause-legal
returns-clause-legal g c = (finished g c).table.legal
