use Rattle.std.proofs.Common.{◌++◌, ◌∙◌, ap, refl, take}
use Rattle.hdlc_frame.specs.Found.{found}
use Rattle.hdlc_frame.specs.Lent.{found_in_got, found_of}
use Rattle.frame_router.specs.Gathered.{IntakeView, lane_of}
use Rattle.frame_router.proofs.GatherLemmas.{gathers_nothing, gathers_segment}
use Rattle.frame_router.proofs.Segments.{brings_frame, on_err}
use Rattle.frame_router.proofs.intake.Intake.feed.Goals as goal

pub returns-in_default-clause-on : goal.returns-in_default-clause-on
returns-in_default-clause-on c =
    let old : IntakeView = record { reading = c.self.inside.decoder; tally = c.self.inside.tally } in
    let push = c.push-pushed in
    rw (← c.self.view_is) (
    gathers_nothing c.args.routes.now c.args.from old _ c.args.batch.now (take push.result.taken c.args.piece.now) push.follows.holds-at-none
    (λ stream read. push.ensures.gives stream read ∙ ap (λ got. found old.reading.limit stream ++ found_in_got got) c.in_default.is) refl
    )

pub returns-clause-on : goal.returns-clause-on
returns-clause-on c =
    let old : IntakeView = record { reading = c.self.inside.decoder; tally = c.self.inside.tally } in
    let push = c.push-pushed in
    rw (← c.self.view_is) (
    gathers_segment c.args.routes.now c.args.from old _ c.args.batch.now c.gather.new.batch (take push.result.taken c.args.piece.now) (found_of c.in-Some.got) c.of-fate.result
    push.follows.holds-at-none (λ stream read. push.ensures.gives stream read ∙ ap (λ got. found old.reading.limit stream ++ found_in_got got) c.in-Some.is)
    c.of-fate.ensures c.in_ok-gather.ensures.ok c.with-self-inside.ensures
    )

pub returns-in_err-gather-clause-brings : goal.returns-in_err-gather-clause-brings
returns-in_err-gather-clause-brings c =
    let old : IntakeView = record { reading = c.self.inside.decoder; tally = c.self.inside.tally } in
    let push = c.push-pushed in
    let no_room = c.in_err-gather.ensures.passing in
    on_err c.from_residual.result _ (rw (← c.self.view_is) (
    brings_frame c.args.routes.now c.args.from (lane_of old) c.args.piece.now push.result.taken (found_of c.in-Some.got) no_room.1 c.of-fate.result
    (λ stream read. push.ensures.gives stream read ∙ ap (λ got. found old.reading.limit stream ++ found_in_got got) c.in-Some.is)
    no_room.2 c.of-fate.ensures no_room.0
    ))
