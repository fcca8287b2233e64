use Rattle.std.proofs.Common.{◌≡◌, ◌++◌, ◌∙◌, Some, IfSome, slice_get, ap, sym, subst}
use Rattle.rpc_journal.specs.declared.table.call_state.CallState.{CallState}
use Rattle.rpc_journal.specs.table.Touch.{finishing_so, completes_given, end_given}
use Rattle.rpc_journal.proofs.PlaceLemmas.{get_some, some_same}
use Rattle.rpc_calls.specs.AnswerItems.{answer_items}
use Rattle.rpc_calls.specs.Places.{ChangesAt}
use Rattle.rpc_journal.specs.table.Turns.{Turns}
use Rattle.rpc_journal.specs.declared.table.call_states.CallStates.{CallStates}
use Rattle.rpc_calls.proofs.EndSteps.{ends_alike}
use Rattle.rpc_calls.proofs.FactSteps.{kept_some, runs_not_done}
use Rattle.rpc_calls.proofs.run_end.end_run.Goals as goal

pub unwrap-state-requires : goal.unwrap-state-requires
unwrap-state-requires g c =
    let row = get_some c.args.states.now.states.calls.items c.args.call c.requires.there in
    kept_some c.state.result c.state.ensures.left (λ left. runs_not_done row.0 (left row.0 row.1) (c.requires.runs row.0 row.1))

pub returns-clause-items : goal.returns-clause-items
returns-clause-items g c = λ r is.
    subst (λ q. c.say_answer-end.new.items.items ≡ c.args.items.now.items ++ answer_items c.args.role c.args.call q c.args.copies.outs.items c.args.copies.end)
    (some_same c.unwrap-state.result.now r (sym (subst (λ o. IfSome o (λ q. slice_get c.args.states.now.states.calls.items c.args.call ≡ Some q.now)) c.unwrap-state.ensures c.state.ensures.state) ∙ is)) c.say_answer-end.ensures.items

pub returns-clause-change : goal.returns-clause-change
returns-clause-change g c = λ at r is.
    let same = (some_same c.unwrap-state.result.now r (sym (subst (λ o. IfSome o (λ q. slice_get c.args.states.now.states.calls.items c.args.call ≡ Some q.now)) c.unwrap-state.ensures c.state.ensures.state) ∙ is)) in
    subst (λ e. ChangesAt c.args.call (Turns at (finishing_so e (completes_given c.args.role r c.args.copies.end))) c.args.states.now.states.calls.items c.set_unflushed.new.self.states.calls.items)
    (c.say_answer-end.ensures.status ∙ ap (λ (q : CallState). end_given c.args.role q c.args.copies.end) same)
    (subst (λ b. ChangesAt c.args.call (Turns at (finishing_so c.say_answer-end.result.status b)) c.args.states.now.states.calls.items c.set_unflushed.new.self.states.calls.items)
    (c.say_answer-end.ensures.completes ∙ ap (λ (q : CallState). completes_given c.args.role q c.args.copies.end) same)
    (subst (λ ss. ChangesAt c.args.call (Turns at (finishing_so c.say_answer-end.result.status c.say_answer-end.result.completes)) c.args.states.now.states.calls.items ss.calls.items) (sym c.set_unflushed.ensures.states) (c.finish-back.ensures.change at)))

pub returns-clause-handlers : goal.returns-clause-handlers
returns-clause-handlers g c =
    ends_alike c.args.call c.args.handler c.finish-back.result c.args.states.now.handlers c.finish-back.new.self c.set_unflushed.new.self (ap (λ (t : CallStates). t.calls.items) c.set_unflushed.ensures.states) c.set_unflushed.ensures.handlers c.finish-back.ensures.handlers
