use Rattle.std.proofs.Common.{ap}
use Rattle.hdlc_frame.specs.Lent.{found_of, parts_of}
use Rattle.frame_router.proofs.Segments.{on_err}
use Rattle.frame_router.proofs.lane.admit.Goals as goal

pub returns-in_err-frame_of-in-Passes-Frame-clause-passing : goal.returns-in_err-frame_of-in-Passes-Frame-clause-passing
returns-in_err-frame_of-in-Passes-Frame-clause-passing c =
    let arm = c.in-Passes-Frame in
    on_err c.from_residual.result _ (arm.is-0, parts_of arm.frame, ap found_of arm.is-1)

pub returns-in_err-push_back-in-Passes-Frame-clause-passing : goal.returns-in_err-push_back-in-Passes-Frame-clause-passing
returns-in_err-push_back-in-Passes-Frame-clause-passing c =
    let arm = c.in-Passes-Frame in
    on_err c.from_residual-in_err-push_back-in-Passes-Frame.result _ (arm.is-0, parts_of arm.frame, ap found_of arm.is-1)
