use Rattle.turn_cell.proofs.Passes.{all_back}
use Rattle.crew_use.proofs.turns.sums_of_four.Goals as goal

pub close-requires : goal.close-requires
close-requires g c = record { all = all_back c.opened-turn.result.0 c.opened-turn.result.1.items c.crew-passes.result.items c.opened-turn.ensures.passes c.crew-passes.ensures.back }
