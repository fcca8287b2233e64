use Rattle.frame_router.proofs.PumpLemmas.{none_pumped}
use Rattle.frame_router.proofs.pumping.pump.Goals as goal

pub pump_stream-requires-clause-start : goal.pump_stream-requires-clause-start
pump_stream-requires-clause-start g c = none_pumped c.args.routes.now c.args.from c.in_ok-intake.intake _ (c.in_ok-intake.ensures c.args.routes.now c.args.from)
