use Rattle.crew_use.proofs.Seats.{seat_new}
use Rattle.crew_use.proofs.shared.crew.work.Goals as goal

pub flush-requires : goal.flush-requires
flush-requires g c = record { seat = seat_new c.args.shared.now _ _ c.requires.new }

pub run_all-requires : goal.run_all-requires
run_all-requires g c = record { seat = seat_new c.args.shared.now _ _ c.requires.new }
