use Rattle.transfer_laws.proofs.pairs.Uploads.{writes_end_well}
use Rattle.transfer_laws.proofs.pairs.laws.writes_end_well.Goals as goal

pub returns : goal.returns
returns c = writes_end_well
