use Rattle.crew_use.proofs.Seats.{four_out}
use Rattle.crew_use.proofs.shared.desk.four_of.Goals as goal

pub returns : goal.returns
returns g c = four_out c.args.shared.now _ _ _ _ _ _ _ _ c.requires.0 c.requires.1 c.remove-other.ensures.items c.remove-worker.ensures.items c.remove-writer.ensures.items c.remove-other.ensures.value c.remove-worker.ensures.value c.remove-writer.ensures.value c.remove-reader.ensures.value
