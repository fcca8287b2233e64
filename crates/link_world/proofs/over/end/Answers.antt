use Rattle.std.proofs.Common.{None, refl, subst}
use Rattle.std.proofs.lemmas.Result.{IfErr-at_err}
use Rattle.rpc_journal.specs.declared.entry.EntryKind.TheVariants.{EndIn}
use Rattle.rpc_journal.specs.History.{adding}
use Rattle.rpc_schedule.specs.Schedule.{input_seat}
use Rattle.link_laws.specs.world.Client.{ClientSettles}
use Rattle.link_laws.specs.world.Stops.{ClientStops}
use Rattle.link_laws.specs.world.Setup.{client_setting}
use Rattle.link_world.proofs.OverLemmas.{ends_as}
use Rattle.link_world.proofs.StopLemmas.{client_end_stops, server_end_stops, stopped_so}
use Rattle.link_world.proofs.over.end.Goals as goal

pub returns-clause-ends : goal.returns-clause-ends
returns-clause-ends c = λ k commands w shows.
    let s = c.end_in.new.self in
    let client = c.end_in-2.new.self in
    let first = c.in_ok-end_in.ensures in
    let last = c.in_ok-end_in-2.ensures in
    ends_as k commands w c.args.server s c.args.client client c.args.wires c.end_in.new.wires c.end_in-2.new.wires c.args.course c.in_ok-tell.field-0 shows
    first.settles first.moves first.items
    (subst (λ at. ClientSettles client_setting at (adding c.args.client.end.serving.table.entries input_seat EndIn) None client.end.serving.table.entries None)
    c.moment-now.ensures last.settles)
    last.moves last.items c.in_ok-tell.ensures.tells

pub returns-in_err-end_in-clause-journal : goal.returns-in_err-end_in-clause-journal
returns-in_err-end_in-clause-journal c = λ is k commands w shows.
    let stopped = stopped_so c.from_residual.result c.end_in.result c.in_err-end_in.field-0.0 c.in_err-end_in.was c.from_residual.ensures is in
    server_end_stops k w c.args.server shows.server (IfErr-at_err _ stopped c.end_in.ensures.full refl)

pub returns-in_err-end_in-2-clause-journal : goal.returns-in_err-end_in-2-clause-journal
returns-in_err-end_in-2-clause-journal c = λ is k commands w shows.
    let stopped = stopped_so c.from_residual-in_err-end_in-2.result c.end_in-2.result c.in_err-end_in-2.field-0.0 c.in_err-end_in-2.was c.from_residual-in_err-end_in-2.ensures is in
    client_end_stops k commands w c.args.client c.args.course shows.client shows.course
    (subst (λ at. ClientStops client_setting at (adding c.args.client.end.serving.table.entries input_seat EndIn) None) c.moment-now.ensures
    (IfErr-at_err _ stopped c.end_in-2.ensures.full refl))
