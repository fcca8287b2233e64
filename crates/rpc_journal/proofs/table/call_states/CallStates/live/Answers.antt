-- The newest call of the name is live where it has no end.
use Rattle.std.proofs.Common.{is_some, refl, ap, sym, ◌∙◌}
use Rattle.std.proofs.lemmas.Option.{slice_get_within}
use Rattle.rpc_journal.proofs.table.NewestLemmas.{live_at, newest_there}
use Rattle.rpc_journal.proofs.table.TableLemmas.{no_status}
use Rattle.rpc_journal.proofs.PlaceLemmas.{some_same}
use Rattle.rpc_journal.proofs.table.call_states.CallStates.live.Goals as goal

pub returns-in_err-state-clause-call : goal.returns-in_err-state-clause-call
returns-in_err-state-clause-call c = λ ds agrees.
    newest_there ds c.args.self.now.newest _ c.args.name c.in_ok-call.call agrees.newest agrees.calls (sym c.in_ok-call.ensures) (sym c.in_err-state.ensures)

pub returns-then-is_some-clause-call : goal.returns-then-is_some-clause-call
returns-then-is_some-clause-call c = λ ds agrees.
    let live = live_at ds c.args.self.now.newest _ c.args.name c.in_ok-call.call _ agrees.newest agrees.calls (sym c.in_ok-call.ensures) (sym c.in_ok-state.ensures) in
    sym (live ∙ rw (sym c.is_some.ensures ∙ c.if-is_some.true) refl)

pub returns-clause-call : goal.returns-clause-call
returns-clause-call c = λ ds agrees.
    let live = live_at ds c.args.self.now.newest _ c.args.name c.in_ok-call.call _ agrees.newest agrees.calls (sym c.in_ok-call.ensures) (sym c.in_ok-state.ensures) in
    sym (live ∙ rw (sym c.is_some.ensures ∙ c.if-is_some.false) refl)

pub returns-clause-there : goal.returns-clause-there
returns-clause-there c = record {
  within = slice_get_within _ _ _ (sym c.in_ok-state.ensures);
  unended = λ r is. no_status r.status (ap is_some (ap (λ x. x.status) (some_same _ _ (sym is ∙ sym c.in_ok-state.ensures))) ∙ sym c.is_some.ensures ∙ c.if-is_some.false);
}
