use Rattle.std.proofs.Common.{ap}
use Rattle.frame_router.proofs.Segments.{gives_front}
use Rattle.frame_router.proofs.router.Router.next.Goals as goal

pub returns-in-Left-clause-given : goal.returns-in-Left-clause-given
returns-in-Left-clause-given c =
    rw (← c.self.view_is, c.in-Left.is) (
    gives_front _ _ c.self.inside.from_right c.next.new.self c.next.result c.next.ensures.front
    (ap (λ l. l.reading) c.next.ensures.rest) (ap (λ l. l.tally) c.next.ensures.rest)
    )

pub returns-in-Right-clause-given : goal.returns-in-Right-clause-given
returns-in-Right-clause-given c =
    rw (← c.self.view_is, c.in-Right.is) (
    gives_front _ _ c.self.inside.from_left c.next-in-Right.new.self c.next-in-Right.result c.next-in-Right.ensures.front
    (ap (λ l. l.reading) c.next-in-Right.ensures.rest) (ap (λ l. l.tally) c.next-in-Right.ensures.rest)
    )
