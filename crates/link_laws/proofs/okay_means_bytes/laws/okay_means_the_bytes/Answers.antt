use Rattle.link_laws.proofs.okay_means_bytes.Whole.{okay_means_the_bytes}
use Rattle.link_laws.proofs.okay_means_bytes.laws.okay_means_the_bytes.Goals as goal

pub returns : goal.returns
returns c = okay_means_the_bytes
