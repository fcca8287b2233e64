use Rattle.std.proofs.Common.{refl}
use Rattle.std.proofs.lemmas.Result.{IfErr-at_err}
use Rattle.rpc_schedule.proofs.StreamLemmas.{handed_on}
use Rattle.link_world.specs.declared.server.stopped.Stopped.TheVariants.{Journal}
use Rattle.link_world.proofs.ServerLemmas.{closed_so}
use Rattle.link_world.proofs.StopLemmas.{close_stops}
use Rattle.link_world.proofs.starting.close.Goals as goal

pub returns-clause-turn : goal.returns-clause-turn
returns-clause-turn c = λ k commands w rest shows wires course.
    let did = c.in_ok-ended.ensures in
    closed_so k commands w c.args.channel c.in_ok-ended.ended rest c.args.server.now c.close_channel.new.self c.args.wires.now c.close_channel.new.wires c.args.course.now
    shows wires course did.rest did.counts did.settles (did.fed w.fed_server shows.fed) did.moves

pub returns-in_err-ended-clause-journal : goal.returns-in_err-ended-clause-journal
returns-in_err-ended-clause-journal c = λ is k w rest shows.
    let stopped = handed_on c.from_residual.result c.close_channel.result c.in_err-ended.field-0.0 Journal c.in_err-ended.was c.from_residual.ensures is in
    close_stops k w c.args.channel c.args.server.now shows (IfErr-at_err _ stopped c.close_channel.ensures.full refl)
