use Rattle.frame_router.specs.Steps.{tally_in}
use Rattle.frame_router.proofs.PumpLemmas.{pumps_on, stops_before, stops_writing}
use Rattle.frame_router.proofs.pumping.pump_piece.Goals as goal

pub returns-in-Err-clause-stops : goal.returns-in-Err-clause-stops
returns-in-Err-clause-stops g c =
    let written = g.O.Sink.written in
    let gathered = c.gather_piece-gathered in
    stops_writing c.args.routes.now c.args.from c.args.intake.now gathered.new.intake c.args.batch.now gathered.new.batch c.args.piece.now
    (written c.args.link_out.now) (written c.write_batch.new.link_out) c.tally.result (tally_in c.in-Err.stopped) gathered.result c.requires.empty
    gathered.ensures.on gathered.ensures.stops c.in-Err.ensures.part

pub returns-in-Ok-gathered-clause-on : goal.returns-in-Ok-gathered-clause-on
returns-in-Ok-gathered-clause-on g c =
    let written = g.O.Sink.written in
    let gathered = c.gather_piece-gathered in
    pumps_on c.args.routes.now c.args.from c.args.intake.now gathered.new.intake c.args.batch.now gathered.new.batch c.args.piece.now
    (written c.args.link_out.now) (written c.write_batch.new.link_out) c.requires.empty c.in-Ok-gathered.ensures.on c.in-Ok.ensures.whole

pub returns-in-Err-gathered-clause-stops : goal.returns-in-Err-gathered-clause-stops
returns-in-Err-gathered-clause-stops g c =
    let written = g.O.Sink.written in
    let gathered = c.gather_piece-gathered in
    stops_before c.args.routes.now c.args.from c.args.intake.now gathered.new.intake c.args.batch.now gathered.new.batch c.args.piece.now
    (written c.args.link_out.now) (written c.write_batch.new.link_out) c.tally-in-Err-gathered.result c.requires.empty c.in-Err-gathered.ensures.stops c.in-Ok.ensures.whole c.tally-in-Err-gathered.ensures
