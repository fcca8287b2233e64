use Rattle.rpc_schedule.proofs.StreamLemmas.{handed_on}
use Rattle.link_world.specs.declared.server.stopped.Stopped.TheVariants.{Journal}
use Rattle.link_world.proofs.MakeLemmas.{made_so, timed_so}
use Rattle.link_world.proofs.making.make_turn.Goals as goal

pub returns-clause-turn : goal.returns-clause-turn
returns-clause-turn c = λ k commands w shows shown course tuned takes.
    made_so k commands w c.act.new.server c.act.new.client c.act.new.wires c.finish.new.wires c.act.new.course c.finish.new.course
    (c.in_ok-act.ensures.turn k commands w shows shown course tuned takes)
    (λ v all. c.in_ok-finish.ensures.shows k commands v all)
    (timed_so k w c.args.wires.now c.args.turn c.args.server.now takes c.in_ok-act.ensures.room shows.entries)

pub returns-in_err-act-clause-journal : goal.returns-in_err-act-clause-journal
returns-in_err-act-clause-journal c = λ is.
    c.act.ensures.journal (handed_on c.from_residual.result c.act.result c.in_err-act.field-0.0 Journal c.in_err-act.was c.from_residual.ensures is)
