use Rattle.std.proofs.Common.{refl, subst, sym}
use Rattle.std.proofs.lemmas.Result.{IfErr-at_err}
use Rattle.rpc_schedule.proofs.StreamLemmas.{handed_on}
use Rattle.link_world.specs.client.Asking.{IsClientOf}
use Rattle.link_world.specs.declared.server.stopped.Stopped.TheVariants.{Journal}
use Rattle.link_world.proofs.ClientLemmas.{asked_so, client_of}
use Rattle.link_world.proofs.StopLemmas.{start_stops}
use Rattle.link_world.proofs.starting.ask.Goals as goal

pub returns-clause-turn : goal.returns-clause-turn
returns-clause-turn c = λ k commands w rest shows wires tuned course.
    asked_so k commands w c.args.command.now rest c.args.client.now c.start.new.self c.args.wires.now c.start.new.wires c.args.course.now c.in_ok-under.under c.start.new.sessions
    c.requires.asked shows wires course c.in_ok-under.ensures.rest
    (c.in_ok-under.ensures.asks k w
    (subst (λ at. IsClientOf k w c.args.client.now c.args.course.now.sessions c.args.tuning at) (sym c.moment-now.ensures)
    (client_of k commands w rest c.args.client.now c.args.course.now c.args.tuning shows tuned course)))
    (c.in_ok-under.ensures.fed w.fed_client shows.fed) c.in_ok-under.ensures.moves

pub returns-in_err-under-clause-journal : goal.returns-in_err-under-clause-journal
returns-in_err-under-clause-journal c = λ is k commands w rest shows tuned course.
    let stopped = handed_on c.from_residual.result c.start.result c.in_err-under.field-0.0 Journal c.in_err-under.was c.from_residual.ensures is in
    start_stops k w c.args.command.now c.requires.asked
    (IfErr-at_err _ stopped c.start.ensures.full refl k w
    (subst (λ at. IsClientOf k w c.args.client.now c.args.course.now.sessions c.args.tuning at) (sym c.moment-now.ensures)
    (client_of k commands w rest c.args.client.now c.args.course.now c.args.tuning shows tuned course)))
