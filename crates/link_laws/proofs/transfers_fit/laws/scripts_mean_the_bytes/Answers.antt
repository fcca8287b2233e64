use Rattle.link_laws.proofs.transfers_fit.OfScripts.{scripts_mean_the_bytes}
use Rattle.link_laws.proofs.transfers_fit.laws.scripts_mean_the_bytes.Goals as goal

pub returns : goal.returns
returns c = scripts_mean_the_bytes
