use Rattle.transfer_resume.proofs.StandingLaws as standing_laws
use Rattle.transfer_resume.proofs.laws.ends_end_all.Goals as goal

pub returns : goal.returns
returns c = standing_laws.ends_end_all
