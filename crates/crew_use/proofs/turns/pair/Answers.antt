use Rattle.turn_cell.proofs.Passes.{two_out}
use Rattle.crew_use.proofs.turns.pair.Goals as goal

pub returns : goal.returns
returns c = two_out c.args.turn.now c.args.passes.items c.remove-first.result c.remove-second.result c.requires.0 c.requires.1 c.remove-second.ensures.value (rw (← c.remove-second.ensures.items) c.remove-first.ensures.value)
