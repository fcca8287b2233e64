use Rattle.std.proofs.Common.{◌+◌, subst, sym}
use Rattle.link_script.specs.declared.command.Command.TheVariants.{Close}
use Rattle.link_world.proofs.server.OutLemmas.{on_ok_one, on_ok_two}
use Rattle.link_laws.specs.world.Limits.{StopsIn}
use Rattle.link_laws.specs.world.Turns.{starting}
use Rattle.link_world.specs.Making.{WorldTurns}
use Rattle.link_world.proofs.MakeLemmas.{client_turns, rest_is, server_turns, stands_after, taken_so}
use Rattle.link_world.proofs.starting.start.Goals as goal

pub returns-in-Close-clause-stands : goal.returns-in-Close-clause-stands
returns-in-Close-clause-stands c =
    let d = c.args.course.now in
    let under = c.close.new.course.under in
    on_ok_two c.close.result
    (λ rest attends. stands_after c.close.new.server c.args.client.now (record d { started = d.started + 1; under = under }) c.close.new.course c.close.ensures.same rest
    c.requires.stands.client (attends _ _) c.requires.stands.times)
    c.close.ensures.rest c.close.ensures.attends

pub returns-in-Close-clause-turn : goal.returns-in-Close-clause-turn
returns-in-Close-clause-turn c =
    let d = c.args.course.now in
    on_ok_one c.close.result
    (λ turn k commands w rest shows shown course tuned wires kind.
    subst (λ command. WorldTurns k commands w (starting command rest) c.close.new.server c.args.client.now c.close.new.wires c.close.new.course) (sym c.in-Close.is)
    (server_turns k commands w (starting (Close c.in-Close.channel) rest) c.close.new.server c.args.client.now c.close.new.wires c.close.new.course
    (turn k commands w rest shows wires (taken_so commands d w rest course (rest_is commands d w c.args.command.now rest course kind))) shown))
    c.close.ensures.turn

pub returns-in-Read-clause-turn : goal.returns-in-Read-clause-turn
returns-in-Read-clause-turn c =
    let d = c.args.course.now in
    on_ok_one c.ask.result
    (λ turn k commands w rest shows shown course tuned wires kind.
    client_turns k commands w (starting c.args.command.now rest) c.args.server.now c.ask.new.client c.ask.new.wires c.ask.new.course
    (turn k commands w rest shown wires tuned (taken_so commands d w rest course (rest_is commands d w c.args.command.now rest course kind))) shows)
    c.ask.ensures.turn

pub returns-in-Close-clause-journal : goal.returns-in-Close-clause-journal
returns-in-Close-clause-journal c = λ is k commands w rest shows shown course tuned kind.
    subst (λ command. StopsIn k w (starting command rest)) (sym c.in-Close.is) (c.close.ensures.journal is k w rest shows)

pub returns-in-Read-clause-journal : goal.returns-in-Read-clause-journal
returns-in-Read-clause-journal c = λ is k commands w rest shows shown course tuned kind.
    c.ask.ensures.journal is k commands w rest shown tuned
    (taken_so commands c.args.course.now w rest course (rest_is commands c.args.course.now w c.args.command.now rest course kind))
