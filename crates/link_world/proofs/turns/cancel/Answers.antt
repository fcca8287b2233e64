use Rattle.std.proofs.Common.{None, refl, subst}
use Rattle.std.proofs.lemmas.Result.{IfErr-at_err}
use Rattle.rpc_journal.specs.declared.entry.EntryKind.TheVariants.{Cancel}
use Rattle.rpc_journal.specs.History.{adding}
use Rattle.rpc_schedule.specs.Schedule.{run_seat}
use Rattle.link_laws.specs.world.Client.{ClientSettles}
use Rattle.link_laws.specs.world.Stops.{ClientStops}
use Rattle.link_laws.specs.world.Setup.{client_setting}
use Rattle.link_world.proofs.MakeLemmas.{on_ok_four}
use Rattle.link_world.proofs.ClientLemmas.{cancelled}
use Rattle.link_world.proofs.StopLemmas.{cancel_stops}
use Rattle.link_world.proofs.turns.cancel.Goals as goal

pub returns-clause-turn : goal.returns-clause-turn
returns-clause-turn c =
    on_ok_four c.cancel.result
    (λ rests settles fed moves k commands w shows wires course.
    cancelled k commands w c.args.call c.args.client.now c.cancel.new.self c.args.wires.now c.cancel.new.wires c.args.course.now shows wires course rests
    (subst (λ at. ClientSettles client_setting at (adding c.args.client.now.end.serving.table.entries run_seat (Cancel c.args.call)) None
    c.cancel.new.self.end.serving.table.entries None) c.moment-now.ensures settles)
    (fed w.fed_client shows.fed) moves)
    c.cancel.ensures.rest c.cancel.ensures.settles c.cancel.ensures.fed c.cancel.ensures.moves

pub returns-clause-journal : goal.returns-clause-journal
returns-clause-journal c = λ is k commands w shows course.
    cancel_stops k commands w c.args.client.now c.args.course.now shows course c.args.call
    (subst (λ at. ClientStops client_setting at (adding c.args.client.now.end.serving.table.entries run_seat (Cancel c.args.call)) None) c.moment-now.ensures
    (IfErr-at_err _ is c.cancel.ensures.full refl))
