use Rattle.std.proofs.Common.{◌≡◌, suc, ◌+◌, arith, rules, subst, ◌∙◌}
use Rattle.std.proofs.lemmas.Result.{err_from_is_err_and}
use Rattle.task_core.specs.Runs.{Turns}
use Rattle.task_core.proofs.DueLemmas.{first_is, due_is}
use Rattle.task_core.proofs.RunLemmas.{stops_idle}
use Rattle.task_core.proofs.dispatcher.Dispatcher.run_until_stalled.Goals as goal

pub returns-in-None-clause-ran : goal.returns-in-None-clause-ran
returns-in-None-clause-ran g c = λ log stands.
    let so = c.turns.invariant.ran log stands in
    (c.turns._turn, c.turns.auto._turn-end, so.0, so.1, so.2, stops_idle c.turns.self so.0 c.turns._turn c.args.budget c.idle.result so.2 c.in-None.ensures c.idle.ensures)

pub returns-in_err-poll_at-in-Some-clause-ran : goal.returns-in_err-poll_at-in-Some-clause-ran
returns-in_err-poll_at-in-Some-clause-ran g c =
    let p = err_from_is_err_and c.from_residual.result c.from_residual.ensures.1 in
    rw p.1 (λ log stands.
    let so = c.turns.invariant.ran log stands in
    let first = first_is c.turns.self so.0 c.in-Some.key so.2 c.in-Some.ensures.0 c.in-Some.ensures.1 in
    let turn = c.in_err-poll_at-in-Some.ensures.turn so.0 so.2 first in
    (c.turns._turn, c.turns-test.true, so.0, so.1, turn.0, turn.1, turn.2))

pub turns-preserved : goal.turns-preserved
turns-preserved g c =
    record {
      ran = λ log stands.
          let so = c.turns.invariant.ran log stands in
          let first = first_is c.turns.self so.0 c.in-Some.key so.2 c.in-Some.ensures.0 c.in-Some.ensures.1 in
          let turn = c.in_ok-poll_at-in-Some.ensures.turn so.0 so.2 first in
          let next : suc c.turns._turn ≡ c.turns._turn + 1 = omega arith in
          (turn.0, subst (λ n. Turns g.T.Task.polls n log turn.0) next (so.0, so.1, turn.1), turn.2);
      keeps = search rules;
    }

pub returns-in-None-first_due-clause-ran : goal.returns-in-None-first_due-clause-ran
returns-in-None-first_due-clause-ran g c = λ log stands.
    let so = c.turns.invariant.ran log stands in
    (c.turns._turn, c.turns.auto._turn-end, so.0, so.1, so.2, stops_idle c.turns.self so.0 c.turns._turn c.args.budget c.idle-in-None-first_due.result so.2 c.in-None-first_due.ensures c.idle-in-None-first_due.ensures)

pub returns-in-Some-first_due-clause-ran : goal.returns-in-Some-first_due-clause-ran
returns-in-Some-first_due-clause-ran g c = λ log stands.
    let so = c.turns.invariant.ran log stands in
    let all : c.turns._turn ≡ c.args.budget = omega (arith, c.turns.auto._turn-end, c.turns-test.false) in
    let key = c.in-Some-first_due.field-0 in
    (c.turns._turn, c.turns.auto._turn-end, so.0, so.1, so.2, (all, (key, due_is c.turns.self so.0 key so.2 ∙ c.in-Some-first_due.ensures.0)))
