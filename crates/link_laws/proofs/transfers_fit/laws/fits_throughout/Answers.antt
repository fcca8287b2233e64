use Rattle.link_laws.proofs.transfers_fit.Fitting.{fits_throughout}
use Rattle.link_laws.proofs.transfers_fit.laws.fits_throughout.Goals as goal

pub returns : goal.returns
returns c = fits_throughout
