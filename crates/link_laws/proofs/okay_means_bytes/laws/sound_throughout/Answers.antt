use Rattle.link_laws.proofs.okay_means_bytes.Whole.{sound_throughout}
use Rattle.link_laws.proofs.okay_means_bytes.laws.sound_throughout.Goals as goal

pub returns : goal.returns
returns c = sound_throughout
