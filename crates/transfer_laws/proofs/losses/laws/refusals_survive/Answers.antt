use Rattle.transfer_laws.proofs.losses.RefusalSurvival.{refusals_survive}
use Rattle.transfer_laws.proofs.losses.laws.refusals_survive.Goals as goal

pub returns : goal.returns
returns c = refusals_survive
