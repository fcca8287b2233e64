use Rattle.std.proofs.Common.{◌≡◌, ◌+◌, ◌-◌, ℕ, List, arith, subst, sym}
use Rattle.text_fields.specs.Lines.{lines_of}
use Rattle.frame_router.specs.text.Lines.{HasBadLine}
use Rattle.frame_router.proofs.text.LineLemmas.{ReadsOn, reads_more, reads_refused}
use Rattle.frame_router.proofs.text.lines.read_routes.Goals as goal

pub returns-then-not-branch-clause-line : goal.returns-then-not-branch-clause-line
returns-then-not-branch-clause-line c number e =
    let old = c.args.routes.now in
    let lines = lines_of c.args.text.now in
    let more = lines_of c.in-Some.behind.now in
    let count = c.lines.number - 1 in
    let P : List (List ℕ) → Type 0 = λ l. ReadsOn old lines c.lines.routes l count in
    let reads = subst P c.in-Some.ensures.some c.lines.invariant.reads in
    let told : number ≡ c.lines.number = cc in
    let bad = reads_refused old lines c.lines.routes c.in-Some.line.now c.in-Some-read_route.port c.in-Some-read_route.address more count reads c.in-Some-read_route.ensures.some
    (c.in_ok-add_route.ensures.refused c.if-not-branch.true) in
    let Q : ℕ → Type 0 = λ n. HasBadLine old lines (n - 1) in
    (omega (arith, told, c.lines.invariant.low), subst Q (sym told) bad)

pub lines-preserved : goal.lines-preserved
lines-preserved c =
    let old = c.args.routes.now in
    let lines = lines_of c.args.text.now in
    let more = lines_of c.in-Some.behind.now in
    let count = c.lines.number - 1 in
    let P : List (List ℕ) → Type 0 = λ l. ReadsOn old lines c.lines.routes l count in
    let reads = subst P c.in-Some.ensures.some c.lines.invariant.reads in
    let step : c.lines.number + 1 - 1 ≡ count + 1 = omega (arith, c.lines.invariant.low) in
    record {
      reads = reads_more old lines c.lines.routes c.add_route.new.routes c.in-Some.line.now c.in-Some-read_route.port c.in-Some-read_route.address more count (c.lines.number + 1 - 1) reads
          c.in-Some-read_route.ensures.some (c.in_ok-add_route.ensures.may c.if-not-branch.false) (c.in_ok-add_route.ensures.added c.if-not-branch.false) step;
      low = omega arith;
      room = omega (arith, c.in-Some.ensures.shorter, c.lines.invariant.room);
    }
