use Rattle.transfer_resume.proofs.StandingLaws as standing_laws
use Rattle.transfer_resume.proofs.laws.ended_stays_ended.Goals as goal

pub returns : goal.returns
returns c = standing_laws.ended_stays_ended
