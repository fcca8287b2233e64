use Rattle.link_laws.proofs.transfers_fit.OfScripts.{sound_scripts_mean_the_bytes}
use Rattle.link_laws.proofs.transfers_fit.laws.sound_scripts_mean_the_bytes.Goals as goal

pub returns : goal.returns
returns c = sound_scripts_mean_the_bytes
