use Rattle.link_laws.proofs.one_run.Ways.{sound_without_flips}
use Rattle.link_laws.proofs.one_run.laws.sound_without_flips.Goals as goal

pub returns : goal.returns
returns c = sound_without_flips
