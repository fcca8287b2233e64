use Rattle.std.proofs.Common.{refl, subst}
use Rattle.std.proofs.lemmas.Result.{IfErr-at_err}
use Rattle.demo_services.specs.DemoRule.{demo_rule}
use Rattle.rpc_journal.specs.declared.entry.EntryKind.TheVariants.{Tick}
use Rattle.rpc_journal.specs.History.{adding}
use Rattle.rpc_schedule.specs.Schedule.{Settles, flush_seat}
use Rattle.rpc_schedule.proofs.StreamLemmas.{handed_on}
use Rattle.link_laws.specs.world.Stops.{ClientStops, ServerStopsWith}
use Rattle.link_laws.specs.world.Setup.{client_setting}
use Rattle.link_world.specs.client.ClientSide.{ClientWorks}
use Rattle.link_world.specs.client.Underway.{task_seen}
use Rattle.link_world.specs.declared.server.stopped.Stopped.TheVariants.{Journal}
use Rattle.link_world.proofs.MakeLemmas.{on_ok_four}
use Rattle.link_world.proofs.StopLemmas.{poll_stops, tick_stops}
use Rattle.link_world.proofs.TimeLemmas.{time_passed}
use Rattle.link_world.proofs.turns.pass_time.Goals as goal

pub returns-clause-turn : goal.returns-clause-turn
returns-clause-turn c =
    let s = c.args.server.now in
    let client = c.args.client.now in
    on_ok_four c.tick.result
    (λ rests settles fed moves k commands w shows shown wires course.
    time_passed k commands w s c.tick.new.self client c.settle.new.self c.args.wires.now c.settle.new.wires c.tick.new.wires c.args.course.now c.settle.new.under
    shows shown wires course c.in_ok-settle.ensures.rest
    (subst (λ at. ClientWorks at client.end.serving.table.entries c.args.course.now.under c.settle.new.self.end.serving.table.entries c.settle.new.under)
    c.moment-now.ensures c.in_ok-settle.ensures.works)
    (c.in_ok-settle.ensures.fed w.fed_client shown.fed) c.in_ok-settle.ensures.moves rests
    (subst (λ at. Settles demo_rule s.end.serving.table.setting (adding s.end.serving.table.entries flush_seat (Tick at)) c.tick.new.self.end.serving.table.entries)
    c.moment-now.ensures settles)
    (fed w.fed_server shows.fed) moves)
    c.tick.ensures.rest c.tick.ensures.settles c.tick.ensures.fed c.tick.ensures.moves

pub returns-in_err-settle-clause-journal : goal.returns-in_err-settle-clause-journal
returns-in_err-settle-clause-journal c = λ is k commands w shows shown course.
    let client = c.args.client.now in
    let stopped = handed_on c.from_residual.result c.settle.result c.in_err-settle.field-0.0 Journal c.in_err-settle.was c.from_residual.ensures is in
    poll_stops k commands w client c.args.course.now shown course
    (subst (λ at. ClientStops client_setting at client.end.serving.table.entries (task_seen c.args.course.now.under)) c.moment-now.ensures
    (IfErr-at_err _ stopped c.settle.ensures.full refl))

pub returns-clause-journal : goal.returns-clause-journal
returns-clause-journal c = λ is k commands w shows shown course.
    let s = c.args.server.now in
    let client = c.args.client.now in
    tick_stops k commands w client c.args.course.now shown course s c.settle.new.self c.settle.new.under shows
    (subst (λ at. ClientWorks at client.end.serving.table.entries c.args.course.now.under c.settle.new.self.end.serving.table.entries c.settle.new.under)
    c.moment-now.ensures c.in_ok-settle.ensures.works)
    (subst (λ at. ServerStopsWith demo_rule s.end.serving.table.setting s.end.serving.table.entries flush_seat (Tick at)) c.moment-now.ensures
    (IfErr-at_err _ is c.tick.ensures.full refl))
