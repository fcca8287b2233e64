use Rattle.std.proofs.Common.{ℕ, arith, length-take, length-drop}
use Rattle.frame_router.proofs.PumpLemmas.{on_more, on_nothing, on_whole, stops_part}
use Rattle.frame_router.proofs.Segments.{on_err}
use Rattle.frame_router.proofs.pumping.gather_piece.Goals as goal

pub segments-init : goal.segments-init
segments-init c = record {
  within = omega arith;
  on = on_nothing c.args.routes.now c.args.from c.args.intake.now c.args.batch.now c.args.piece.now;
}

pub segments-preserved : goal.segments-preserved
segments-preserved c =
    let taken = c.in_ok-taken.ensures.taken in
    record {
      within = omega (arith, taken, length-take {A = ℕ}, length-drop {A = ℕ});
      on =
          on_more c.args.routes.now c.args.from _ c.segments.intake _ _ c.segments.batch _ c.args.piece.now c.segments.done c.in_ok-taken.taken
          c.segments.invariant.on c.in_ok-taken.ensures.on;
    }

pub returns-clause-on : goal.returns-clause-on
returns-clause-on c = on_whole c.args.routes.now c.args.from _ _ _ _ c.args.piece.now c.segments.done (omega (arith, c.segments-test.false)) c.segments.invariant.on

pub returns-in_err-taken-clause-stops : goal.returns-in_err-taken-clause-stops
returns-in_err-taken-clause-stops c =
    on_err c.from_residual.result _ (
    stops_part c.args.routes.now c.args.from _ c.segments.intake _ _ c.segments.batch _ c.args.piece.now c.segments.done c.segments.invariant.on
    c.in_err-taken.ensures.brings c.in_err-taken.ensures.batch c.in_err-taken.ensures.tally
    )
