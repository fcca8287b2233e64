use Rattle.transfer_resume.proofs.LimitLaws as limit_laws
use Rattle.transfer_resume.proofs.laws.answers_keep_limits.Goals as goal

pub returns : goal.returns
returns c = limit_laws.keeps_limits
