use Rattle.std.proofs.Common.{◌++◌, ◌∙◌, ap, refl, take}
use Rattle.hdlc_frame.specs.Found.{found}
use Rattle.hdlc_frame.specs.Lent.{found_in_got, found_of}
use Rattle.frame_router.specs.Routed.{LaneView}
use Rattle.frame_router.proofs.Segments.{brings_frame, routes_nothing, routes_segment}
use Rattle.frame_router.proofs.lane.Lane.feed.Goals as goal

pub returns-in_default-clause-routes : goal.returns-in_default-clause-routes
returns-in_default-clause-routes c =
    let inside = c.self.inside in
    let old : LaneView = record { reading = inside.decoder; waiting = inside.waiting.items; tally = inside.tally; failed = inside.has_failed } in
    let push = c.push-pushed in
    rw (← c.self.view_is) (
    routes_nothing c.args.routes.now c.args.from old _ (take push.result.taken c.args.piece.now) push.follows.holds-at-none
    (λ stream read. push.ensures.gives stream read ∙ ap (λ got. found old.reading.limit stream ++ found_in_got got) c.in_default.is) refl refl
    )

pub returns-in-Ok-clause-routes : goal.returns-in-Ok-clause-routes
returns-in-Ok-clause-routes c =
    let inside = c.self.inside in
    let old : LaneView = record { reading = inside.decoder; waiting = inside.waiting.items; tally = inside.tally; failed = inside.has_failed } in
    let push = c.push-pushed in
    rw (← c.self.view_is) (
    routes_segment c.args.routes.now c.args.from old _ (take push.result.taken c.args.piece.now) (found_of c.in-Some.got) push.follows.holds-at-none
    (λ stream read. push.ensures.gives stream read ∙ ap (λ got. found old.reading.limit stream ++ found_in_got got) c.in-Some.is)
    (rw (← c.of-fate.ensures) c.in-Ok.ensures.ok)
    (rw (← c.of-fate.ensures, ← c.in-Ok.ensures.room) c.with-self-inside.ensures)
    )

pub returns-in-Err-clause-passing : goal.returns-in-Err-clause-passing
returns-in-Err-clause-passing c well =
    let inside = c.self.inside in
    let old : LaneView = record { reading = inside.decoder; waiting = inside.waiting.items; tally = inside.tally; failed = inside.has_failed } in
    let push = c.push-pushed in
    let no_room = c.in-Err.ensures.passing in
    rw (← c.self.view_is) (
    brings_frame c.args.routes.now c.args.from old c.args.piece.now push.result.taken (found_of c.in-Some.got) no_room.1 c.of-fate.result
    (λ stream read. push.ensures.gives stream read ∙ ap (λ got. found old.reading.limit stream ++ found_in_got got) c.in-Some.is)
    no_room.2 c.of-fate.ensures no_room.0
    )
