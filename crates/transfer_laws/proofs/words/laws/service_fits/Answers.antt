use Rattle.transfer_laws.proofs.words.ServiceFits.{service_fits}
use Rattle.transfer_laws.proofs.words.laws.service_fits.Goals as goal

pub returns : goal.returns
returns c = service_fits
