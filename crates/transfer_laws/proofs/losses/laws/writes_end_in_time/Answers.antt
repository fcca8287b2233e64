use Rattle.transfer_laws.proofs.losses.WriteLaws.{writes_end_in_time}
use Rattle.transfer_laws.proofs.losses.laws.writes_end_in_time.Goals as goal

pub returns : goal.returns
returns c = writes_end_in_time
