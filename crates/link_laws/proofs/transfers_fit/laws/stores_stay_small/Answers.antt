use Rattle.link_laws.proofs.transfers_fit.Fitting.{stores_stay_small}
use Rattle.link_laws.proofs.transfers_fit.laws.stores_stay_small.Goals as goal

pub returns : goal.returns
returns c = stores_stay_small
