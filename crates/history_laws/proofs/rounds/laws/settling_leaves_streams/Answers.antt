use Rattle.history_laws.proofs.rounds.AsideLemmas.{settling_leaves_streams}
use Rattle.history_laws.proofs.rounds.laws.settling_leaves_streams.Goals as goal

pub returns : goal.returns
returns c = settling_leaves_streams
