use Rattle.std.proofs.Common.{ap}
use Rattle.hdlc_frame.specs.Lent.{found_of, parts_of}
use Rattle.frame_router.proofs.Segments.{on_err}
use Rattle.frame_router.proofs.intake.gather.Goals as goal

pub returns-in-Passes-Frame-clause-passing : goal.returns-in-Passes-Frame-clause-passing
returns-in-Passes-Frame-clause-passing c =
    let arm = c.in-Passes-Frame in
    on_err c.push.result _ (arm.is-0, parts_of arm.frame, ap found_of arm.is-1)
