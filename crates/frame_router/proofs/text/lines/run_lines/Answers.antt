use Rattle.std.proofs.Common.{◌≡◌, ◌+◌, ◌-◌, ◌≤◌, ◌++◌, ◌∷◌, [], ℕ, List, ap, arith, refl, subst, sym}
use Rattle.std.specs.Prelude.{string_bytes}
use Rattle.std.proofs.lemmas.List.{append-nil}
use Rattle.text_fields.specs.Lines.{lines_of}
use Rattle.frame_router.specs.declared.routes.Route.{Route}
use Rattle.frame_router.specs.Routed.{RouterView}
use Rattle.frame_router.specs.declared.text.line.Step.{Step}
use Rattle.frame_router.specs.text.Flows.{Flows, no_flows}
use Rattle.frame_router.specs.text.Following.{FollowsBoth}
use Rattle.frame_router.specs.text.Lines.{IsStepLine}
use Rattle.frame_router.specs.text.Printed.{after_step, step_lines}
use Rattle.frame_router.proofs.text.LineLemmas.{RunsOn, RunsTo, runs_done, runs_start, runs_step, runs_stray}
use Rattle.frame_router.proofs.text.lines.run_lines.Goals as goal

-- the line in front, done
on_line : (routes : List Route) (lines left : List (List ℕ)) (line : List ℕ) (rest : List (List ℕ)) (old new : RouterView) (text_old text_now text_new : List ℕ) (step : Step) (first number : ℕ) →
    first ≤ number → RunsTo routes lines left old text_old text_now (number - first) → left ≡ line ∷ rest → IsStepLine line step →
    ((flows : Flows) → FollowsBoth old.routes old flows → FollowsBoth old.routes new (after_step old.routes step flows)) →
    ((flows : Flows) → FollowsBoth old.routes old flows → text_new ≡ text_now ++ step_lines step flows) → RunsTo routes lines rest new text_old text_new (number + 1 - first)
on_line routes lines left line rest old new text_old text_now text_new step first number low runs front is goes tells =
    let further : number + 1 - first ≡ (number - first) + 1 = omega (arith, low) in
    let P : List (List ℕ) → Type 0 = λ l. RunsTo routes lines l old text_old text_now (number - first) in
    runs_step routes lines line rest old new text_old text_now text_new step (number - first) (number + 1 - first) (subst P front runs) is further goes tells

pub returns-in_default-2-clause-line : goal.returns-in_default-2-clause-line
returns-in_default-2-clause-line c number e =
    let routes = c.args.router.now.routes in
    let lines = lines_of c.args.text.now in
    let more = lines_of c.in-Some.behind.now in
    let count = c.lines.number - c.args.first in
    let before = c.lines.invariant.runs in
    let P : List (List ℕ) → Type 0 = λ l. RunsOn routes lines l before.0 before.1 count in
    let runs = subst P c.in-Some.ensures.some before.4 in
    let none = rw c.in_default-2.is at c.in_ok-step.ensures.none in
    let told : number ≡ c.lines.number = cc in
    (count, omega (arith, told, c.lines.invariant.low), runs_stray routes lines c.in-Some.line.now more before.0 before.1 count runs none)

pub lines-init : goal.lines-init
lines-init c = record {
  runs = (
    [],
    no_flows,
    sym (append-nil (string_bytes c.args.out.now)),
    c.requires.started,
    runs_start c.args.router.now.routes (lines_of c.args.text.now) (c.args.first - c.args.first) (omega arith),
  );
  low = omega arith;
  room = omega arith;
}

pub lines-preserved : goal.lines-preserved
lines-preserved c =
    let first = c.args.first in
    let number = c.lines.number in
    let is = rw c.in-Some-2.is at c.in_ok-step.ensures.some in
    record {
      runs = on_line c.args.router.now.routes (lines_of c.args.text.now) (lines_of c.lines.rest.now) c.in-Some.line.now (lines_of c.in-Some.behind.now) c.lines.router c.run_step.new.router (string_bytes c.args.out.now)
          (string_bytes c.lines.out) (string_bytes c.run_step.new.out) c.in-Some-2.step first number c.lines.invariant.low c.lines.invariant.runs c.in-Some.ensures.some is c.in_ok-run_step.ensures.follows
          c.in_ok-run_step.ensures.told;
      low = omega (arith, c.lines.invariant.low);
      room = omega (arith, c.in-Some.ensures.shorter, c.lines.invariant.room);
    }

pub lines-preserved-in_ok-run_step : goal.lines-preserved-in_ok-run_step
lines-preserved-in_ok-run_step c =
    let first = c.args.first in
    let number = c.lines.number in
    let is = rw c.in-Some-2.is at c.in_ok-step.ensures.some in
    record {
      runs = on_line c.args.router.now.routes (lines_of c.args.text.now) (lines_of c.lines.rest.now) c.in-Some.line.now (lines_of c.in-Some.behind.now) c.lines.router c.run_step.new.router (string_bytes c.args.out.now)
          (string_bytes c.lines.out) (string_bytes c.run_step.new.out) c.in-Some-2.step first number c.lines.invariant.low c.lines.invariant.runs c.in-Some.ensures.some is c.in_ok-run_step.ensures.follows
          c.in_ok-run_step.ensures.told;
      low = omega (arith, c.lines.invariant.low);
      room = omega (arith, c.in-Some.ensures.shorter, c.lines.invariant.room);
    }

pub lines-preserved-in_ok-run_step-2 : goal.lines-preserved-in_ok-run_step-2
lines-preserved-in_ok-run_step-2 c =
    let first = c.args.first in
    let number = c.lines.number in
    let is = rw c.in-Some-2.is at c.in_ok-step.ensures.some in
    record {
      runs = on_line c.args.router.now.routes (lines_of c.args.text.now) (lines_of c.lines.rest.now) c.in-Some.line.now (lines_of c.in-Some.behind.now) c.lines.router c.run_step.new.router (string_bytes c.args.out.now)
          (string_bytes c.lines.out) (string_bytes c.run_step.new.out) c.in-Some-2.step first number c.lines.invariant.low c.lines.invariant.runs c.in-Some.ensures.some is c.in_ok-run_step.ensures.follows
          c.in_ok-run_step.ensures.told;
      low = omega (arith, c.lines.invariant.low);
      room = omega (arith, c.in-Some.ensures.shorter, c.lines.invariant.room);
    }

pub returns-clause-ok : goal.returns-clause-ok
returns-clause-ok c =
    let routes = c.args.router.now.routes in
    let lines = lines_of c.args.text.now in
    let before = c.lines.invariant.runs in
    let none : lines_of c.lines.rest.now ≡ [] = ap lines_of (c.in_default.ensures.none.0 refl) in
    runs_done routes lines (lines_of c.lines.rest.now) c.lines.router (string_bytes c.args.out.now) (string_bytes c.lines.out) before.0 before.1 (c.lines.number - c.args.first) before.4 none before.3 before.2
