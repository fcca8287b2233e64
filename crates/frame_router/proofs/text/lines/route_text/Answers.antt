use Rattle.std.proofs.Common.{◌≡◌, ◌+◌, ◌-◌, ◌++◌, ℕ, List, [], ap, arith, refl, subst, ◌∙◌}
use Rattle.std.specs.Prelude.{string_bytes}
use Rattle.std.proofs.lemmas.Result.{err_from_is_err_and}
use Rattle.text_fields.specs.Lines.{lines_of}
use Rattle.frame_router.specs.declared.routes.Route.{Route}
use Rattle.frame_router.specs.text.Lines.{HasBadLine, IsPrinted, bad_step}
use Rattle.frame_router.specs.text.Printed.{end_lines}
use Rattle.frame_router.proofs.text.LineLemmas.{all_printed}
use Rattle.frame_router.proofs.text.StepLemmas.{at_routes, both_start}
use Rattle.frame_router.proofs.text.lines.route_text.Goals as goal

pub returns-in_err-rest-clause-line : goal.returns-in_err-rest-clause-line
returns-in_err-rest-clause-line c number e =
    let p = err_from_is_err_and c.from_residual.result c.from_residual.ensures.1 in
    let r = c.in_err-rest.ensures.line number (cc) in
    let P : List Route → Type 0 = λ routes. HasBadLine routes (lines_of c.args.text.now) (number - 1) in
    (r.0, subst P c.new-routes.ensures r.1)

pub run_lines-requires-clause-started : goal.run_lines-requires-clause-started
run_lines-requires-clause-started c = both_start c.in_ok-router.router.routes c.in_ok-router.router refl c.in_ok-router.ensures.routed

pub returns-in_err-run_lines-clause-line : goal.returns-in_err-run_lines-clause-line
returns-in_err-run_lines-clause-line c number e =
    let p = err_from_is_err_and c.from_residual-in_err-run_lines.result c.from_residual-in_err-run_lines.ensures.1 in
    let r = c.in_err-run_lines.ensures.line number (cc) in
    let low = c.in_ok-rest.ensures.number.0 in
    let bad = c.in_ok-rest.ensures.bad r.0 (bad_step c.read_routes.new.routes (lines_of c.in_ok-rest.rest.now) r.0 c.in_ok-rest.ensures.behind r.2) in
    let same : (c.in_ok-rest.number - 1) + r.0 ≡ number - 1 = omega (arith, r.1, low) in
    let P : List Route → Type 0 = λ routes. HasBadLine routes (lines_of c.args.text.now) ((c.in_ok-rest.number - 1) + r.0) in
    let Q : ℕ → Type 0 = λ n. HasBadLine [] (lines_of c.args.text.now) n in
    (omega (arith, r.1, low), subst Q same (subst P c.new-routes.ensures bad))

pub returns-clause-ok : goal.returns-clause-ok
returns-clause-ok c =
    let first = c.in_ok-router.router.routes in
    let router = c.run_lines.new.router in
    let runs = c.in_ok-run_lines.ensures.ok in
    let lines = lines_of c.in_ok-rest.rest.now in
    let before = string_bytes c.run_lines.new.out in
    let whole = string_bytes c.push_end.new.out in
    let told : whole ≡ before ++ end_lines first runs.flows =
    c.in_ok-push_end.ensures runs.flows (at_routes first router runs.flows runs.follows) ∙ ap (λ rs. before ++ end_lines rs runs.flows) runs.follows.same in
    let steps = all_printed first lines router (string_bytes c.new-out.result) before whole c.new-out.ensures.bytes runs told in
    let P : List Route → Type 0 = λ routes. IsPrinted routes lines whole in
    let Q : List Route → Type 0 = λ routes. IsPrinted routes (lines_of c.args.text.now) whole in
    subst Q c.new-routes.ensures (c.in_ok-rest.ensures.printed whole (subst P c.in_ok-router.ensures.routes steps))
