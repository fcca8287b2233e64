use Rattle.link_laws.proofs.lossless_transfer.Finishing.{writes_finish}
use Rattle.link_laws.proofs.lossless_transfer.laws.writes_finish.Goals as goal

pub returns : goal.returns
returns c = writes_finish
