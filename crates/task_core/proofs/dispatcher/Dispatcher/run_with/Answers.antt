use Rattle.std.proofs.Common.{◌≡◌, suc, ◌+◌, arith, rules, subst, ◌∙◌}
use Rattle.std.proofs.lemmas.Result.{err_from_is_err_and}
use Rattle.task_core.specs.Hearing.{HeardTurns}
use Rattle.task_core.proofs.DueLemmas.{first_is, due_is}
use Rattle.task_core.proofs.RunLemmas.{stops_idle}
use Rattle.task_core.proofs.HeardLemmas.{heard_turn, turn_looks, heard_all, heard_some}
use Rattle.task_core.proofs.dispatcher.Dispatcher.run_with.Goals as goal

pub returns-in-None-clause-ran : goal.returns-in-None-clause-ran
returns-in-None-clause-ran g c = λ log stands same.
    let so = c.turns.invariant.ran log stands same in
    let scan = c.in-None.ensures.scanned in
    let s = scan.2 so.0 so.2 so.3 in
    let now = c.first_heard.new.self in
    (s.0, (c.turns._turn, c.turns.auto._turn-end, so.0, so.1, scan.0, s.1, s.2, stops_idle now s.0 c.turns._turn c.args.budget c.idle.result s.2 c.in-None.ensures.first c.idle.ensures, heard_all now s.0 scan.0 s.2 scan.1), s.3)

pub returns-in_err-poll_at-in-Some-clause-ran : goal.returns-in_err-poll_at-in-Some-clause-ran
returns-in_err-poll_at-in-Some-clause-ran g c =
    let p = err_from_is_err_and c.from_residual.result c.from_residual.ensures.1 in
    rw p.1 (λ log stands same.
    let so = c.turns.invariant.ran log stands same in
    let s = c.in-Some.ensures.scanned so.0 so.2 so.3 in
    let first = first_is c.first_heard.new.self s.0 c.in-Some.key s.2 c.in-Some.ensures.first.0 c.in-Some.ensures.first.1 in
    let turn = c.in_err-poll_at-in-Some.ensures.turn s.0 s.2 first in
    (turn.0, (c.turns._turn, c.turns-test.true, so.0, so.1, heard_turn g.T.Task.polls so.0 s.0 turn.0 c.in-Some.key _ s.1 first turn.1, turn.2), turn_looks g.T.Task.polls s.0 turn.0 _ turn.1 ∙ s.3))

pub turns-preserved : goal.turns-preserved
turns-preserved g c =
    record {
      ran = λ log stands same.
          let so = c.turns.invariant.ran log stands same in
          let s = c.in-Some.ensures.scanned so.0 so.2 so.3 in
          let first = first_is c.first_heard.new.self s.0 c.in-Some.key s.2 c.in-Some.ensures.first.0 c.in-Some.ensures.first.1 in
          let turn = c.in_ok-poll_at-in-Some.ensures.turn s.0 s.2 first in
          let next : suc c.turns._turn ≡ c.turns._turn + 1 = omega arith in
          (turn.0, subst (λ n. HeardTurns g.T.Task.polls n log turn.0) next (so.0, so.1, heard_turn g.T.Task.polls so.0 s.0 turn.0 c.in-Some.key _ s.1 first turn.1), turn.2, turn_looks g.T.Task.polls s.0 turn.0 _ turn.1 ∙ s.3);
      ear = search rules;
      keeps = search rules;
    }

pub returns-in-None-first_heard-clause-ran : goal.returns-in-None-first_heard-clause-ran
returns-in-None-first_heard-clause-ran g c = λ log stands same.
    let so = c.turns.invariant.ran log stands same in
    let scan = c.in-None-first_heard.ensures.scanned in
    let s = scan.2 so.0 so.2 so.3 in
    let now = c.first_heard-2.new.self in
    (s.0, (c.turns._turn, c.turns.auto._turn-end, so.0, so.1, scan.0, s.1, s.2, stops_idle now s.0 c.turns._turn c.args.budget c.idle-in-None-first_heard.result s.2 c.in-None-first_heard.ensures.first c.idle-in-None-first_heard.ensures, heard_all now s.0 scan.0 s.2 scan.1), s.3)

pub returns-in-Some-first_heard-clause-ran : goal.returns-in-Some-first_heard-clause-ran
returns-in-Some-first_heard-clause-ran g c = λ log stands same.
    let so = c.turns.invariant.ran log stands same in
    let key = c.in-Some-first_heard.field-0 in
    let now = c.first_heard-2.new.self in
    let s = c.in-Some-first_heard.ensures.scanned so.0 so.2 so.3 in
    let all : c.turns._turn ≡ c.args.budget = omega (arith, c.turns.auto._turn-end, c.turns-test.false) in
    let due = due_is now s.0 key s.2 ∙ c.in-Some-first_heard.ensures.first.0 in
    (s.0, (c.turns._turn, c.turns.auto._turn-end, so.0, so.1, key + 1, s.1, s.2, (all, (key, due)), heard_some s.0 key due), s.3)
