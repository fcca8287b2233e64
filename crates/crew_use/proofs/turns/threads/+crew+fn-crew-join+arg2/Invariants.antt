use Rattle.std.proofs.Common.{◌+◌, ◌*◌, length}
use Rattle.crew_use.proofs.turns.threads.+crew+fn-crew-join+arg2.Given as goal

abbrev pub decreases-crew : goal.decreases-crew
decreases-crew g l = 2 * length l.passes.items

abbrev pub decreases-join+arg2 : goal.decreases-join+arg2
decreases-join+arg2 g l = 2 * length l.passes.items + 1
