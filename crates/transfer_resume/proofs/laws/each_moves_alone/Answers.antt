use Rattle.transfer_resume.proofs.AloneLaws.{moves_alone}
use Rattle.transfer_resume.proofs.laws.each_moves_alone.Goals as goal

pub returns : goal.returns
returns c = moves_alone
